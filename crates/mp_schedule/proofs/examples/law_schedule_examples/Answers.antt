use Rattle.std.proofs.Common.{◌≡◌, zero, suc, true, false, [], ◌∷◌, refl, sym, ap, subst, inl, inr, arith}
use Rattle.mp_schedule.specs.declared.schedule.Try.{Try}
use Rattle.mp_schedule.specs.declared.schedule.TryState.TheVariants.{Free, Waiting}
use Rattle.mp_schedule.specs.Schedules.{free_try, has_left, NoneMayBeTried}
use Rattle.mp_schedule.specs.SmallTries.{waiting_try}
use Rattle.mp_schedule.proofs.examples.law_schedule_examples.Goals as goal

waiting_not_free : Waiting ≡ Free → ⊥
waiting_not_free e = cc

left_not_gone : true ≡ false → ⊥
left_not_gone e = cc

-- behind a try of its session that waits, a free one can't come next
none_behind : NoneMayBeTried 2 (waiting_try 1 ∷ free_try 1 ∷ [])
none_behind zero session below may = let same : waiting_try 1 ≡ free_try session = (let e = may.found in cc) in waiting_not_free (ap (λ (t : Try). t.state) same)
none_behind (suc zero) session below may =
    let same : free_try 1 ≡ free_try session = (let e = may.found in cc) in
    left_not_gone (subst (λ s. has_left s (waiting_try 1 ∷ []) ≡ false) (sym (ap (λ (t : Try). t.session) same)) may.in_turn)
none_behind (suc (suc place)) session below may = absurd (omega (arith, below))

pub returns-clause-not_second : goal.returns-clause-not_second
returns-clause-not_second c = λ next. next.1 0 1 (omega arith) (record { found = refl; in_turn = refl })

pub returns-clause-one_may : goal.returns-clause-one_may
returns-clause-one_may c = λ none. none 1 2 (omega arith) (record { found = refl; in_turn = refl })

pub returns-clause-waits : goal.returns-clause-waits
returns-clause-waits c = (waiting_try 1, inr (inl refl), refl)

pub returns-clause-forget : goal.returns-clause-forget
returns-clause-forget c = ((waiting_try 1, inl refl, refl), none_behind)

pub returns-clause-not_forget : goal.returns-clause-not_forget
returns-clause-not_forget c = λ next. next.1 1 2 (omega arith) (record { found = refl; in_turn = refl })
