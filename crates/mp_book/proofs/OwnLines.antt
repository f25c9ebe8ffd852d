-- A session's own statements and the script's: what is found in the one by its number stands in the other at its place.
use Rattle.std.proofs.Common.{◌≡◌, ℕ, zero, suc, ◌+◌, ◌==◌, ◌&&◌, Bool, true, false, List, [], ◌∷◌, filter, Option, None, Some, slice_get, if◌then◌else◌, refl, sym, ap, subst, ◌∙◌, arith}
use Rattle.std.specs.Option.{IfSome}
use Rattle.std.proofs.lemmas.Bool.Decides.{nat_tests}
use Rattle.mp_script.specs.declared.statements.Line.{Line}
use Rattle.mp_script.specs.Entries.{open_after}
use Rattle.mp_script.specs.Execution.{line_at}
use Rattle.mp_script.specs.Spelling.{MayStand}
use Rattle.mp_book.specs.Orderly.{session_lines, AreInOrder}

-- what a look-up of a session's statement by its number finds
pub record IsFoundAt (lines : List Line) (session index : ℕ) (line : Line) : Type 0 where
  pub found : line_at lines session index ≡ Some line
  pub session_is : line.session ≡ session
  pub index_is : line.index ≡ index

some_same : (x y : Line) → Some x ≡ Some y → x ≡ y
some_same x y e = cc

no_line : (x : Line) → None ≡ Some x → ⊥
no_line x e = cc

pub found_at : (session : ℕ) (lines : List Line) (before : ℕ) (open_now : Bool) (k : ℕ) (line : Line) → AreInOrder before open_now (session_lines session lines) → slice_get (session_lines session lines) k ≡ Some line → IsFoundAt lines session (before + suc k) line
found_at session [] before open_now k line order is = absurd (no_line line is)
found_at session (x ∷ xs) before open_now k line order is = go (x.session == session) refl (λ b o j. found_at session xs b o j line)
  where
    here : ((b : ℕ) (o : Bool) (j : ℕ) → AreInOrder b o (session_lines session xs) → slice_get (session_lines session xs) j ≡ Some line → IsFoundAt xs session (b + suc j) line) → (x.session == session) ≡ true → (j : ℕ) → AreInOrder before open_now (x ∷ session_lines session xs) → slice_get (x ∷ session_lines session xs) j ≡ Some line → IsFoundAt (x ∷ xs) session (before + suc j) line
    here ih e zero own at =
        let same = some_same x line at in
        let test : (x.session == session && x.index == before + suc zero) ≡ true = (let its : x.index ≡ before + 1 = own.0 in grind (arith, nat_tests)) in
        record {
          found = rw test (ap (λ (l : Line). Some l) same);
          session_is = (let its : x.session ≡ session = grind (arith, nat_tests) in ap (λ (l : Line). l.session) (sym same) ∙ its);
          index_is = (let its : x.index ≡ before + 1 = own.0 in ap (λ (l : Line). l.index) (sym same) ∙ omega (arith, its));
        }
    here ih e (suc j) own at =
        let rest = ih (before + 1) (open_after x.stmt) j own.2 at in
        let place : before + 1 + suc j ≡ before + suc (suc j) = omega arith in
        let test : (x.session == session && x.index == before + suc (suc j)) ≡ false = (let its : x.index ≡ before + 1 = own.0 in grind (arith, nat_tests)) in
        record {
          found = rw test (ap (λ n. line_at xs session n) (sym place) ∙ rest.found);
          session_is = rest.session_is;
          index_is = rest.index_is ∙ place;
        }

    skip : ((b : ℕ) (o : Bool) (j : ℕ) → AreInOrder b o (session_lines session xs) → slice_get (session_lines session xs) j ≡ Some line → IsFoundAt xs session (b + suc j) line) → (x.session == session) ≡ false → AreInOrder before open_now (session_lines session xs) → slice_get (session_lines session xs) k ≡ Some line → IsFoundAt (x ∷ xs) session (before + suc k) line
    skip ih e own at =
        let rest = ih before open_now k own at in
        record { found = rw e rest.found; session_is = rest.session_is; index_is = rest.index_is }

    go : (b : Bool) → (x.session == session) ≡ b → ((b : ℕ) (o : Bool) (j : ℕ) → AreInOrder b o (session_lines session xs) → slice_get (session_lines session xs) j ≡ Some line → IsFoundAt xs session (b + suc j) line) → IsFoundAt (x ∷ xs) session (before + suc k) line
    go true e ih = here ih e k (rw e at order) (rw e at is)
    go false e ih = skip ih e (rw e at order) (rw e at is)

-- the statement behind one fits where that one leaves its transaction
pub next_in_order : (own : List Line) (before : ℕ) (open_now : Bool) (k : ℕ) (line : Line) → AreInOrder before open_now own → slice_get own k ≡ Some line → IfSome (slice_get own (suc k)) (λ next. MayStand (open_after line.stmt) next.stmt)
next_in_order [] before open_now k line order is = absurd (no_line line is)
next_in_order (x ∷ []) before open_now zero line order is = tt
next_in_order (x ∷ (y ∷ ys)) before open_now zero line order is = subst (λ (l : Line). MayStand (open_after l.stmt) y.stmt) (some_same x line is) order.2.1
next_in_order (x ∷ xs) before open_now (suc k) line order is = next_in_order xs (before + 1) (open_after x.stmt) k line order.2 is

pub first_in_order : (own : List Line) (before : ℕ) (open_now : Bool) → AreInOrder before open_now own → IfSome (slice_get own 0) (λ next. MayStand open_now next.stmt)
first_in_order [] before open_now order = tt
first_in_order (x ∷ xs) before open_now order = order.1
