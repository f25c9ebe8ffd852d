-- The page has the mtr's LLSN when the second record comes.
use Rattle.std.proofs.Common.{◌≡◌, ℕ, refl, arith}
use Rattle.mp_cells.proofs.laws.law_prev_examples.Goals as goal

pub returns-clause-own : goal.returns-clause-own
returns-clause-own c = λ first second. (refl, (refl, tt))

pub returns-clause-former : goal.returns-clause-former
returns-clause-former c = λ first second h. let both : ◌≡◌ {A = ℕ} 0 5 = h.1.0 in omega (arith, both)
