-- The last LLSN isn't above one that none of those before is above.
use Rattle.std.proofs.Common.{◌≡◌, ℕ, ◌≤◌, Bool, true, false, nat_lt, cond, List, [], ◌∷◌, ◌++◌, map, Some, None, Ok, refl, sym, subst, arith}
use Rattle.std.proofs.lemmas.Bool.Decides.{nat_tests}
use Rattle.std.proofs.lemmas.List.{append_assoc, append-nil}
use Rattle.mp_cells.specs.declared.records.Mtr.{Mtr}
use Rattle.mp_redo.specs.Reading.{Read}
use Rattle.mp_log.specs.Logs.{last_after}
use Rattle.mp_log.specs.Reading.{Checks}
use Rattle.mp_log.specs.Opening.{first_above, IsTied}
use Rattle.mp_log.proofs.Appended.{llsn_of}

pub tied_first : (llsns : List ℕ) → IsTied 0 llsns
tied_first llsns llsn none = omega arith

-- none above in both parts, none above in the second
behind : (llsn : ℕ) (xs ys : List ℕ) → first_above llsn (xs ++ ys) ≡ None → first_above llsn ys ≡ None
behind llsn [] ys none = none
behind llsn (x ∷ xs) ys none = behind llsn xs ys (by_test (nat_lt llsn x) none) where
  by_test : (test : Bool) → cond test (Some x) (first_above llsn (xs ++ ys)) ≡ None → first_above llsn (xs ++ ys) ≡ None
  by_test true none = absurd cc
  by_test false none = none

one : (llsn x : ℕ) → first_above llsn (x ∷ []) ≡ None → x ≤ llsn
one llsn x none = by_test (nat_lt llsn x) refl none where
  by_test : (test : Bool) → nat_lt llsn x ≡ test → cond test (Some x) None ≡ None → x ≤ llsn
  by_test true is none = absurd cc
  by_test false is none = grind (arith, nat_tests, is)

-- with the LLSNs of mtrs behind, the last of these is tied
pub tied_more : (last : ℕ) (old : List ℕ) (mtrs : List Mtr) → IsTied last old → IsTied (last_after last mtrs) (old ++ map llsn_of mtrs)
tied_more last old [] tied = subst (IsTied last) (sym (append-nil old)) tied
tied_more last old (mtr ∷ mtrs) tied =
    subst (IsTied (last_after mtr.llsn mtrs)) (append_assoc old (mtr.llsn ∷ []) (map llsn_of mtrs))
    (tied_more mtr.llsn (old ++ mtr.llsn ∷ []) mtrs (λ llsn none. one llsn mtr.llsn (behind llsn old (mtr.llsn ∷ []) none)))

-- a batch that was checked
pub tied_checked : (read : Read (List Mtr)) (bytes : List ℕ) (node last : ℕ) (old new : List ℕ) (end : ℕ) → Checks read bytes node last old new (Ok end) → IsTied last old → IsTied end new
tied_checked read bytes node last old new end checked tied = rw (checked.end_is, checked.added) (tied_more last old checked.mtrs tied)
