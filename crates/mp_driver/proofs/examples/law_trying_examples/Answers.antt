use Rattle.std.proofs.Common.{◌≡◌, ◌≤◌, [], ◌∷◌, refl, ap, inl, inr, lit<, lit≤, arith}
use Rattle.mp_machine.specs.Lists.{IsIn}
use Rattle.mp_schedule.specs.declared.schedule.Try.{Try}
use Rattle.mp_schedule.specs.Schedules.{free_try}
use Rattle.mp_script.specs.declared.statements.SessionOn.{SessionOn}
use Rattle.mp_driver.specs.Driving.{IsOnMember}
use Rattle.mp_driver.proofs.examples.law_trying_examples.Goals as goal

-- session 3, declared on primary 1, and on primary 2
abbrev on_first : SessionOn
on_first = record { session = 3; primary = 1 }

abbrev on_second : SessionOn
on_second = record { session = 3; primary = 2 }

its_member : IsOnMember (on_first ∷ []) 1 3
its_member = (on_first, inl refl, refl, lit< tt, lit≤ tt, lit≤ tt)

none_beyond : (on : SessionOn) → IsIn on (on_second ∷ []) → on.primary ≤ 1 → ⊥
none_beyond on (inl same) high = let is : on.primary ≡ 2 = ap (λ (x : SessionOn). x.primary) same in absurd (omega (arith, is, high))
none_beyond on (inr none) high = none

its_try : (t : Try) → IsIn t (free_try 3 ∷ []) → IsOnMember (on_first ∷ []) 1 t.session
its_try t (inl same) = rw same its_member
its_try t (inr none) = absurd none

pub returns-clause-on_one : goal.returns-clause-on_one
returns-clause-on_one c = its_member

pub returns-clause-beyond : goal.returns-clause-beyond
returns-clause-beyond c = λ h. none_beyond h.0 h.1 h.5

pub returns-clause-declared : goal.returns-clause-declared
returns-clause-declared c = refl

pub returns-clause-declared_beyond : goal.returns-clause-declared_beyond
returns-clause-declared_beyond c = refl

pub returns-clause-tries : goal.returns-clause-tries
returns-clause-tries c = its_try

pub returns-clause-tries_undeclared : goal.returns-clause-tries_undeclared
returns-clause-tries_undeclared c = λ on. (on (free_try 3) (inl refl)).1

pub returns-clause-word_of_page : goal.returns-clause-word_of_page
returns-clause-word_of_page c = refl

pub returns-clause-word_of_slots : goal.returns-clause-word_of_slots
returns-clause-word_of_slots c = refl

pub returns-clause-waits_for_page : goal.returns-clause-waits_for_page
returns-clause-waits_for_page c = refl

pub returns-clause-waits_for_writer : goal.returns-clause-waits_for_writer
returns-clause-waits_for_writer c = λ name. refl
