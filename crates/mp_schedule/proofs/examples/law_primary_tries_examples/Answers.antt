use Rattle.std.proofs.Common.{◌≡◌, zero, suc, true, false, [], ◌∷◌, ◌∙◌, sym, ap, refl, arith}
use Rattle.std.proofs.lemmas.Option.{none-some, same_Some}
use Rattle.mp_schedule.specs.declared.schedule.Try.{Try}
use Rattle.mp_schedule.specs.Schedules.{free_try, is_left, is_free, AreOverBelow, NoneWaitsFrom}
use Rattle.mp_schedule.specs.SmallTries.{waiting_try, over_try}
use Rattle.mp_schedule.proofs.examples.law_primary_tries_examples.Goals as goal

left_not_gone : true ≡ false → ⊥
left_not_gone e = cc

first_over : AreOverBelow 1 (over_try 1 ∷ free_try 1 ∷ [])
first_over zero t below at = ap (λ (y : Try). is_left y.state) (sym (same_Some (over_try 1) t at))
first_over (suc place) t below at = absurd (omega (arith, below))

second_free : NoneWaitsFrom 1 (waiting_try 1 ∷ free_try 1 ∷ [])
second_free zero t behind at = absurd (omega (arith, behind))
second_free (suc zero) t behind at = let same = same_Some (free_try 1) t at in sym (ap (λ (y : Try). is_left y.state) same) ∙ ap (λ (y : Try). is_free y.state) same
second_free (suc (suc place)) t behind at = absurd (none-some t at)

pub returns-clause-over : goal.returns-clause-over
returns-clause-over c = first_over

pub returns-clause-not_over : goal.returns-clause-not_over
returns-clause-not_over c = λ over. left_not_gone (over 1 (free_try 1) (omega arith) refl)

pub returns-clause-none_waits : goal.returns-clause-none_waits
returns-clause-none_waits c = second_free

pub returns-clause-waits : goal.returns-clause-waits
returns-clause-waits c = λ none. left_not_gone (none 0 (waiting_try 1) (omega arith) refl)
