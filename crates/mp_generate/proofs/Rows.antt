-- A row of one statement of each session, from 1 to 16, may be said where each session has as many statements above, and all
-- transactions are open, or none is.
use Rattle.std.proofs.Common.{arith, ◌≡◌, ℕ, zero, suc, ◌+◌, ◌*◌, ◌<◌, ◌≤◌, ◌==◌, Bool, true, false, cond, if◌then◌else◌, List, [], ◌∷◌, ◌++◌, length, map, refl, sym, ap, subst, ◌∙◌, append-nil, append_assoc, ◌⊎◌, inl, inr}
use Rattle.std.proofs.lemmas.Bool.{eqb-true}
use Rattle.std.proofs.lemmas.Bool.Decides.{nat_tests}
use Rattle.std.proofs.lemmas.List.{length-append}
use Rattle.mp_script.specs.declared.statements.Line.{Line}
use Rattle.mp_script.specs.declared.statements.SessionOn.{SessionOn}
use Rattle.mp_script.specs.InTheirPart.{count_from}
use Rattle.mp_script.specs.Entries.{is_declared, statements, has_open_trx, open_after}
use Rattle.mp_script.specs.Words.{IsStmt}
use Rattle.mp_script.specs.Spelling.{MaySay, MayStand}
use Rattle.mp_script.proofs.Canonical.{said, AllSaid}
use Rattle.mp_script.proofs.Tallies.{statements-push, open_behind-push}

-- what may be said in two pieces may be said in one
pub said_in_two : (n : ℕ) (all : List SessionOn) (above xs ys : List Line) → AllSaid n all above xs → AllSaid n all (above ++ xs) ys → AllSaid n all above (xs ++ ys)
said_in_two n all above [] ys first more = subst (λ l. AllSaid n all l ys) (append-nil above) more
said_in_two n all above (x ∷ xs) ys first more =
    (first.0, said_in_two n all (above ++ x ∷ []) xs ys first.1 (subst (λ l. AllSaid n all l ys) (sym (append_assoc above (x ∷ []) xs)) more))

-- each session has so many statements, and its transaction is open, or isn't
pub record IsEven (lines : List Line) (n : ℕ) (is_open : Bool) : Type 0 where
  pub counts : (session : ℕ) → 1 ≤ session → session ≤ 16 → statements lines session ≡ n
  pub opens : (session : ℕ) → 1 ≤ session → session ≤ 16 → has_open_trx lines session ≡ is_open
  pub size : length lines ≡ 16 * n

-- a row's statements: each session's next one, which may stand there
pub record IsRow (f : ℕ → Line) (n : ℕ) (before after : Bool) : Type 0 where
  pub session : (session : ℕ) → (f session).session ≡ session
  pub index : (session : ℕ) → (f session).index ≡ n + 1
  pub within : (session : ℕ) → session ≤ 16 → IsStmt (f session).stmt
  pub stands : (session : ℕ) → MayStand before (f session).stmt
  pub behind : (session : ℕ) → open_after (f session).stmt ≡ after

-- in the middle of a row: the sessions below one have their statement of it
record IsHalfway (lines : List Line) (first n : ℕ) (before after : Bool) : Type 0 where
  done_count : (session : ℕ) → 1 ≤ session → session < first → statements lines session ≡ n + 1
  left_count : (session : ℕ) → first ≤ session → session ≤ 16 → statements lines session ≡ n
  done_open : (session : ℕ) → 1 ≤ session → session < first → has_open_trx lines session ≡ after
  left_open : (session : ℕ) → first ≤ session → session ≤ 16 → has_open_trx lines session ≡ before
  size : length lines + 1 ≡ 16 * n + first

test_same : (a b : ℕ) → a ≡ b → (a == b) ≡ true
test_same a b h = grind (arith, nat_tests)

test_below : (a b : ℕ) → a < b → (a == b) ≡ false
test_below a b h = grind (arith, nat_tests)

test_above : (a b : ℕ) → b < a → (a == b) ≡ false
test_above a b h = grind (arith, nat_tests)

same_count : (lines : List Line) (line : Line) (session : ℕ) → (line.session == session) ≡ false → statements (lines ++ line ∷ []) session ≡ statements lines session
same_count lines line session e = statements-push lines line session ∙ ap (λ (b : Bool). statements lines session + cond b 1 0) e ∙ omega arith

more_count : (lines : List Line) (line : Line) (session : ℕ) → (line.session == session) ≡ true → statements (lines ++ line ∷ []) session ≡ statements lines session + 1
more_count lines line session e = statements-push lines line session ∙ ap (λ (b : Bool). statements lines session + cond b 1 0) e

same_open : (lines : List Line) (line : Line) (session : ℕ) → (line.session == session) ≡ false → has_open_trx (lines ++ line ∷ []) session ≡ has_open_trx lines session
same_open lines line session e = open_behind-push false lines line session ∙ ap (λ (b : Bool). if b then open_after line.stmt else has_open_trx lines session) e

now_open : (lines : List Line) (line : Line) (session : ℕ) → (line.session == session) ≡ true → has_open_trx (lines ++ line ∷ []) session ≡ open_after line.stmt
now_open lines line session e = open_behind-push false lines line session ∙ ap (λ (b : Bool). if b then open_after line.stmt else has_open_trx lines session) e

below_or_at : (session first : ℕ) → session < first + 1 → (session < first) ⊎ (session ≡ first)
below_or_at session first h = go (session == first) refl
  where
    go : (b : Bool) → (session == first) ≡ b → (session < first) ⊎ (session ≡ first)
    go true e = inr (eqb-true session first e)
    go false e = inl (less e)
      where
        less : (session == first) ≡ false → session < first
        less e = grind (arith, nat_tests)

halfway_next : (lines : List Line) (line : Line) (first n : ℕ) (before after : Bool) → first ≤ 16 → line.session ≡ first → open_after line.stmt ≡ after
    → IsHalfway lines first n before after → IsHalfway (lines ++ line ∷ []) (first + 1) n before after
halfway_next lines line first n before after low is opens half = record {
  done_count = λ session positive below. elim (below_or_at session first below) [
    | inl less ↦ same_count lines line session (test_above line.session session (omega (arith, less, is))) ∙ half.done_count session positive less
    | inr at ↦ more_count lines line session (test_same line.session session (omega (arith, at, is))) ∙ ap (λ k. k + 1) (half.left_count session (omega (arith, at)) (omega (arith, at, low)))
  ];
  left_count = λ session from most. same_count lines line session (test_below line.session session (omega (arith, from, is))) ∙ half.left_count session (omega (arith, from)) most;
  done_open = λ session positive below. elim (below_or_at session first below) [
    | inl less ↦ same_open lines line session (test_above line.session session (omega (arith, less, is))) ∙ half.done_open session positive less
    | inr at ↦ now_open lines line session (test_same line.session session (omega (arith, at, is))) ∙ opens
  ];
  left_open = λ session from most. same_open lines line session (test_below line.session session (omega (arith, from, is))) ∙ half.left_open session (omega (arith, from)) most;
  size = let grown : length (lines ++ line ∷ []) ≡ length lines + 1 = length-append lines (line ∷ []) in omega (arith, grown, half.size);
}

module _ (primaries : ℕ) (all : List SessionOn) (declared : (session : ℕ) → 1 ≤ session → session ≤ 16 → is_declared all session ≡ true) (f : ℕ → Line) (n : ℕ) (before after : Bool) (row : IsRow f n before after) (few : n < 600) where
  may_say : (first : ℕ) (above : List Line) → 1 ≤ first → first ≤ 16 → IsHalfway above first n before after → MaySay (said primaries all above) (f first)
  may_say first above low high half =
      let own : (f first).session ≡ first = row.session first in
      record {
        declared = ap (is_declared all) own ∙ declared first low high;
        number = row.index first ∙ ap (λ k. k + 1) (sym (ap (statements above) own ∙ half.left_count first (omega arith) high));
        within = row.within first high;
        stands = subst (λ b. MayStand b (f first).stmt) (sym (ap (has_open_trx above) own ∙ half.left_open first (omega arith) high)) (row.stands first);
        room = omega (arith, half.size, high, few);
      }

  rest_said : (count first : ℕ) (above : List Line) → 1 ≤ first → first + count ≡ 17 → IsHalfway above first n before after
      → AllSaid primaries all above (map f (count_from first count)) × IsHalfway (above ++ map f (count_from first count)) 17 n before after
  rest_said zero first above low sum half = (tt, subst (λ k. IsHalfway (above ++ []) k n before after) (omega (arith, sum)) (subst (λ l. IsHalfway l first n before after) (sym (append-nil above)) half))
  rest_said (suc count) first above low sum half =
      let high : first ≤ 16 = omega (arith, sum) in
      let next : IsHalfway (above ++ f first ∷ []) (first + 1) n before after = halfway_next above (f first) first n before after high (row.session first) (row.behind first) half in
      let rest : AllSaid primaries all (above ++ f first ∷ []) (map f (count_from (first + 1) count)) × IsHalfway ((above ++ f first ∷ []) ++ map f (count_from (first + 1) count)) 17 n before after =
      rest_said count (first + 1) (above ++ f first ∷ []) (omega arith) (omega (arith, sum)) next in
      ((may_say first above low high half, rest.0), subst (λ l. IsHalfway l 17 n before after) (append_assoc above (f first ∷ []) (map f (count_from (first + 1) count))) rest.1)

  pub row_said : (above : List Line) → IsEven above n before → AllSaid primaries all above (map f (count_from 1 16)) × IsEven (above ++ map f (count_from 1 16)) (n + 1) after
  row_said above even =
      let start : IsHalfway above 1 n before after = record {
        done_count = λ session positive below. absurd (omega (arith, positive, below));
        left_count = λ session from most. even.counts session from most;
        done_open = λ session positive below. absurd (omega (arith, positive, below));
        left_open = λ session from most. even.opens session from most;
        size = omega (arith, even.size);
      } in
      let whole : AllSaid primaries all above (map f (count_from 1 16)) × IsHalfway (above ++ map f (count_from 1 16)) 17 n before after = rest_said 16 1 above (omega arith) (omega arith) start in (
        whole.0,
        record {
          counts = λ session positive most. whole.1.done_count session positive (omega (arith, most));
          opens = λ session positive most. whole.1.done_open session positive (omega (arith, most));
          size = omega (arith, whole.1.size);
        },
      )
