-- What a schedule has left to try stays on the members; and the member of a session.
use Rattle.std.proofs.Common.{◌≡◌, ℕ, ◌≤◌, Bool, true, false, List, [], ◌∷◌, None, Some, slice_get, refl, sym, ap, subst, ◌∙◌, inl, inr, arith}
use Rattle.std.specs.Prelude.{find}
use Rattle.std.proofs.lemmas.Bool.Decides.{nat_tests}
use Rattle.mp_machine.specs.Lists.{IsIn}
use Rattle.mp_script.specs.declared.statements.SessionOn.{SessionOn}
use Rattle.mp_script.proofs.Options.{not_some, some_is}
use Rattle.mp_script.proofs.Ordered.{from_map}
use Rattle.mp_schedule.specs.declared.schedule.Try.{Try}
use Rattle.mp_schedule.specs.declared.schedule.TryState.{TryState}
use Rattle.mp_schedule.specs.Schedules.{without_mark, without_marks, StandsSo}
use Rattle.mp_supports.proofs.Places.{in_set, at_place}
use Rattle.mp_driver.specs.Driving.{IsOnMember, is_on_member, AreOnMembers}

module _ (sessions : List SessionOn) (count : ℕ) where
  pub on_there : (tries : List Try) (place : ℕ) (t : Try) → AreOnMembers sessions count tries → slice_get tries place ≡ Some t → IsOnMember sessions count t.session
  on_there tries place t on is = on t (at_place tries place t is)

  pub on_set : (old new : List Try) (place : ℕ) (state : TryState) (t : Try) → slice_get old place ≡ Some t → StandsSo old place state new → AreOnMembers sessions count old → AreOnMembers sessions count new
  on_set old new place state t is stands on = subst (AreOnMembers sessions count) (sym (stands t is)) (λ x there. elim (in_set old place (record t { state = state }) x there) [
    | inl same ↦ subst (λ (n : ℕ). IsOnMember sessions count n) (ap (λ (y : Try). y.session) (sym same)) (on_there old place t on is)
    | inr stood ↦ on_there old stood.0 x on stood.2
  ])

  pub on_forgotten : (tries : List Try) → AreOnMembers sessions count tries → AreOnMembers sessions count (without_marks tries)
  on_forgotten tries on x there =
      let was = from_map without_mark tries x there in
      subst (λ (n : ℕ). IsOnMember sessions count n) (ap (λ (y : Try). y.session) was.2) (on was.0 was.1)

-- so many members are as many
pub on_as_many : (sessions : List SessionOn) (count more : ℕ) (tries : List Try) → more ≡ count → AreOnMembers sessions count tries → AreOnMembers sessions more tries
on_as_many sessions count more tries same on = subst (λ (n : ℕ). AreOnMembers sessions n tries) (sym same) on

-- ---- looking a session up

module _ (test : SessionOn → Bool) where
  pub found_one : (xs : List SessionOn) (y : SessionOn) → find test xs ≡ Some y → IsIn y xs × (test y ≡ true)
  found_one [] y is = absurd (not_some y is)
  found_one (x ∷ xs) y is = by_test (test x) refl (found_one xs y)
    where
      by_test : (b : Bool) → test x ≡ b → (find test xs ≡ Some y → IsIn y xs × (test y ≡ true)) → IsIn y (x ∷ xs) × (test y ≡ true)
      by_test true passes rest = let same : x ≡ y = some_is x y (sym (rw passes refl) ∙ is) in (inl (sym same), ap test (sym same) ∙ passes)
      by_test false fails rest = let there = rest (sym (rw fails refl) ∙ is) in (inr there.0, there.1)

  pub none_found : (xs : List SessionOn) (x : SessionOn) → find test xs ≡ None → IsIn x xs → test x ≡ true → ⊥
  none_found [] x none there passes = there
  none_found (y ∷ xs) x none there passes = by_test (test y) refl (none_found xs x)
    where
      by_test : (b : Bool) → test y ≡ b → (find test xs ≡ None → IsIn x xs → test x ≡ true → ⊥) → ⊥
      by_test true here rest = not_some y (sym none ∙ rw here refl)
      by_test false fails rest = elim there [
        | inl same ↦ absurd cc
        | inr other ↦ rest (sym (rw fails refl) ∙ none) other passes
      ]

-- the declaration of a session passes the test of it, and what passes is one
pub on_passes : (sessions : List SessionOn) (count session : ℕ) (h : IsOnMember sessions count session) → is_on_member h.0 count session ≡ true
on_passes sessions count session h = let is = h.2 in let low = h.4 in let high = h.5 in grind (arith, nat_tests)

pub passes_on : (on : SessionOn) (count session : ℕ) → is_on_member on count session ≡ true → (on.session ≡ session) × (1 ≤ on.primary) × (on.primary ≤ count)
passes_on on count session passes = (grind (arith, nat_tests), grind (arith, nat_tests), grind (arith, nat_tests))
