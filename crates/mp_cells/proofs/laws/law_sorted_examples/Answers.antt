-- By sorting.
use Rattle.std.proofs.Common.{◌≡◌, ℕ, List, [], ◌∷◌, ap, arith}
use Rattle.mp_cells.proofs.laws.law_sorted_examples.Goals as goal

abbrev second_of : List (ℕ × ℕ) → ℕ
second_of [] = 0
second_of (x ∷ xs) = x.1

pub returns-clause-equal_kept : goal.returns-clause-equal_kept
returns-clause-equal_kept c = λ e. let both : ◌≡◌ {A = ℕ} 1 0 = ap second_of e in omega (arith, both)
