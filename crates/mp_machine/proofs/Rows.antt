-- Small views that show what the definitions say.
use Rattle.std.proofs.Common.{◌≡◌, ℕ, ◌+◌, [], ◌∷◌, None, Some, ◌==◌, refl}
use Rattle.mp_machine.specs.Machine.{reversed_onto}
use Rattle.mp_machine.specs.View.{View, with_part, only, without, joined, whole, ViewAgrees}

abbrev both : View ℕ
both = Some 5 ∷ Some 7 ∷ []

second_alone : only (λ n. n == 1) both ≡ None ∷ Some 7 ∷ []
second_alone = refl

first_alone : without (λ n. n == 1) both ≡ Some 5 ∷ None ∷ []
first_alone = refl

together : joined (Some 5 ∷ None ∷ []) (None ∷ Some 7 ∷ []) ≡ both
together = refl

changed : with_part both 1 8 ≡ Some 5 ∷ Some 8 ∷ []
changed = refl

-- a part that is not held is not made by a change
not_held : with_part {Part = ℕ} (Some 5 ∷ []) 1 8 ≡ Some 5 ∷ []
not_held = refl

all_of_two : whole (λ n. n + 5) 2 ≡ Some 5 ∷ Some 6 ∷ []
all_of_two = refl

in_time : reversed_onto {Event = ℕ} (3 ∷ 2 ∷ 1 ∷ []) [] ≡ 1 ∷ 2 ∷ 3 ∷ []
in_time = refl

-- a view with another part does not agree
disagrees : ViewAgrees (λ _. 5) both → ⊥
disagrees h = let e : ◌≡◌ {A = ℕ} 5 7 = h 1 7 refl in absurd (cc)
