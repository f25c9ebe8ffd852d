use Rattle.std.proofs.Common.{◌≡◌, [], ◌∷◌, refl, ap}
use Rattle.mp_schedule.specs.declared.schedule.Try.{Try}
use Rattle.mp_schedule.specs.declared.schedule.TryState.TheVariants.{Free, Over}
use Rattle.mp_schedule.specs.Schedules.{free_try}
use Rattle.mp_schedule.specs.SmallTries.{over_try}
use Rattle.mp_schedule.proofs.examples.law_tries_examples.Goals as goal

over_not_free : Over ≡ Free → ⊥
over_not_free e = cc

other_over : over_try 1 ∷ free_try 2 ∷ [] ≡ free_try 1 ∷ over_try 2 ∷ [] → ⊥
other_over e = let first : over_try 1 ≡ free_try 1 = cc in over_not_free (ap (λ (t : Try). t.state) first)

pub returns-clause-not_another : goal.returns-clause-not_another
returns-clause-not_another c = λ stands. other_over (stands (free_try 2) refl)
