use Rattle.std.proofs.Common.{◌≡◌, ℕ, ◌<◌, [], ◌∷◌, Option, Some, None, refl, sym, subst, arith}
use Rattle.std.specs.List.{AllByRecursion}
use Rattle.mp_cells.specs.declared.records.Mtr.{Mtr}
use Rattle.mp_histories.specs.SmallHistory.{small_put}
use Rattle.mp_cuts.proofs.examples.law_left_examples.Goals as goal

pub returns-clause-none_durable : goal.returns-clause-none_durable
returns-clause-none_durable c = let low : 4 < 5 = omega arith in record { sound = refl; later = small_put ∷ []; front = refl; covers = (low, tt) }

pub returns-clause-lost : goal.returns-clause-lost
returns-clause-lost c = λ left.
    let is : small_put ∷ [] ≡ left.later = left.front in
    let all : AllByRecursion (λ (m : Mtr). 5 < m.llsn) (small_put ∷ []) = subst (AllByRecursion (λ (m : Mtr). 5 < m.llsn)) (sym is) left.covers in
    let low : 5 < 5 = all.0 in
    absurd (omega (arith, low))

pub returns-clause-off : goal.returns-clause-off
returns-clause-off c = λ left. let e : ◌≡◌ {A = Option ℕ} (Some 1) None = left.sound in absurd cc

pub returns-clause-idle : goal.returns-clause-idle
returns-clause-idle c = record { sound = refl; later = []; front = refl; covers = tt }
