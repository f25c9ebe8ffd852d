-- The kept lines from a line on: it is skipped, or read before the rest.
use Rattle.std.proofs.Common.{◌≡◌, ◌+◌, ◌<◌, ℕ, List, ◌∷◌, map, drop, length, Bool, true, false, refl, sym, ap, subst, Bor, Result, Ok, Err, if◌then◌else◌, get_or, add-one}
use Rattle.std.specs.Result.{IsErrAnd}
use Rattle.std.proofs.Math.Seq.{drop-cons}
use Rattle.mp_script.specs.declared.entries.Entry.{Entry}
use Rattle.mp_script.specs.declared.reading.ScriptRefusal.{ScriptRefusal}
use Rattle.mp_script.specs.declared.reading.ScriptRefusal.TheVariants.{Fault, Memory}
use Rattle.mp_script.specs.Words.{Kept, kept_from, is_skipped, words_of}
use Rattle.mp_script.specs.Entries.{Said, nothing_said, with_entry}
use Rattle.mp_script.specs.Faults.{FaultAt, at_line, primaries_in, entry_of, said_below, said_by}
use Rattle.mp_script.specs.Readings.{GivesSaid}
use Rattle.mp_script.specs.Drafts.{said_in}

abbrev pub texts : List (Bor (List ℕ)) → List (List ℕ)
texts lines = map (λ x. x.now) lines

-- the line at an index comes first
pub texts-drop : (lines : List (Bor (List ℕ))) (i : ℕ) (d : Bor (List ℕ)) → i < length lines → texts (drop i lines) ≡ (get_or lines i d).now ∷ texts (drop (i + 1) lines)
texts-drop lines i d h =
    let e : drop i lines ≡ get_or lines i d ∷ drop (i + 1) lines = rw (add-one) (drop-cons lines i d h) in
    ap texts e

pub kept-skipped : (number : ℕ) (line : List ℕ) (lines : List (List ℕ)) → is_skipped line ≡ true → kept_from number (line ∷ lines) ≡ kept_from (number + 1) lines
kept-skipped number line lines h = chosen (is_skipped line) _ _ h
  where
    chosen : (b : Bool) (x y : List Kept) → b ≡ true → (if b then x else y) ≡ x
    chosen true x y h = refl
    chosen false x y h = cc

abbrev pub kept : ℕ → List ℕ → Kept
kept number line = record { number = number; words = words_of line }

pub kept-read : (number : ℕ) (line : List ℕ) (lines : List (List ℕ)) → is_skipped line ≡ false → kept_from number (line ∷ lines) ≡ kept number line ∷ kept_from (number + 1) lines
kept-read number line lines h = passed (is_skipped line) _ _ h
  where
    passed : (b : Bool) (x y : List Kept) → b ≡ false → (if b then x else y) ≡ y
    passed true x y h = cc
    passed false x y h = refl

-- a line that is added
pub below-ok : (said new : Said) (number : ℕ) (words : List (List ℕ)) (rest : List Kept) → at_line number (entry_of said words) (λ e. Ok (with_entry said e)) ≡ Ok new → said_below said (record { number = number; words = words } ∷ rest) ≡ said_below new rest
below-ok said new number words rest h = by_entry (entry_of said words) h
  where
    ok_same : {x y : Said} → ◌≡◌ {A = Result Said FaultAt} (Ok x) (Ok y) → x ≡ y
    ok_same e = cc

    by_entry : (r : Result Entry ℕ) → at_line number r (λ e. Ok (with_entry said e)) ≡ Ok new → at_line number r (λ e. said_below (with_entry said e) rest) ≡ said_below new rest
    by_entry (Ok entry) e = ap (λ x. said_below x rest) (ok_same e)
    by_entry (Err fault) e = cc

-- a line with a fault, or want of memory
pub below-err : (said new : Said) (number : ℕ) (words : List (List ℕ)) (rest : List Kept) (refusal : ScriptRefusal) → GivesSaid {T = Unit {0}} (λ x. new) (at_line number (entry_of said words) (λ e. Ok (with_entry said e))) (Err refusal) → GivesSaid said_in (said_below said (record { number = number; words = words } ∷ rest)) (Err refusal)
below-err said new number words rest Memory h = tt
below-err said new number words rest (Fault fault line) h = by_entry (entry_of said words) h
  where
    by_entry : (r : Result Entry ℕ) → at_line number r (λ e. Ok (with_entry said e)) ≡ Err (record { fault = fault; line = line }) → at_line number r (λ e. said_below (with_entry said e) rest) ≡ Err (record { fault = fault; line = line })
    by_entry (Ok entry) e = cc
    by_entry (Err f) e = e

-- what is passed on by `?`
pub gives-same : {T : Type 0} (shown : T → Said) (wanted : Result Said FaultAt) (result : Result T ScriptRefusal) (refusal : ScriptRefusal) → IsErrAnd result (λ e. e ≡ refusal) → GivesSaid shown wanted (Err refusal) → GivesSaid shown wanted result
gives-same shown wanted (Ok x) refusal h g = absurd h
gives-same shown wanted (Err e) refusal h g = subst (λ r. GivesSaid shown wanted (Err r)) (sym h) g

-- the first kept line, where it has no fault
pub by-ok : (primaries number : ℕ) (words : List (List ℕ)) (rest : List Kept) → at_line number (primaries_in words) (λ n. Ok n) ≡ Ok primaries → said_by (record { number = number; words = words } ∷ rest) ≡ said_below (nothing_said primaries) rest
by-ok primaries number words rest h = by_header (primaries_in words) h
  where
    ok_same : {x y : ℕ} → ◌≡◌ {A = Result ℕ FaultAt} (Ok x) (Ok y) → x ≡ y
    ok_same e = cc

    by_header : (r : Result ℕ ℕ) → at_line number r (λ n. Ok n) ≡ Ok primaries → at_line number r (λ n. said_below (nothing_said n) rest) ≡ said_below (nothing_said primaries) rest
    by_header (Ok n) e = ap (λ x. said_below (nothing_said x) rest) (ok_same e)
    by_header (Err fault) e = cc
