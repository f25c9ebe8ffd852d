-- A choice by a test, where the test is known, and a property that holds of both sides.
use Rattle.std.proofs.Common.{◌≡◌, ℕ, Bool, true, false, ◌==◌, if◌then◌else◌, ap, sym, subst, eq-eqb, ne_eqb}
use mathlib.Core.Logic.{dite}
use native.Mathlib.Decide.{ℕ_discrete}

pub if_true : {A : Type 0} (b : Bool) (x y : A) → b ≡ true → (if b then x else y) ≡ x
if_true b x y e = ap (λ c. if c then x else y) e

pub if_false : {A : Type 0} (b : Bool) (x y : A) → b ≡ false → (if b then x else y) ≡ y
if_false b x y e = ap (λ c. if c then x else y) e

pub if_equal : {A : Type 0} (i j : ℕ) (x y : A) → i ≡ j → (if i == j then x else y) ≡ x
if_equal i j x y e = if_true (i == j) x y (eq-eqb i j e)

pub if_differs : {A : Type 0} (i j : ℕ) (x y : A) → ¬ (i ≡ j) → (if i == j then x else y) ≡ y
if_differs i j x y d = if_false (i == j) x y (ne_eqb i j d)

-- what holds where two numbers are equal, and where they are not, holds of the choice
pub of_equal : {A : Type 0} (P : A → Type 0) (i j : ℕ) (x y : A) → (i ≡ j → P x) → (¬ (i ≡ j) → P y)
    → P (if i == j then x else y)
of_equal P i j x y same other =
    dite (ℕ_discrete i j)
    (λ e. subst P (sym (if_equal i j x y e)) (same e))
    (λ d. subst P (sym (if_differs i j x y d)) (other d))
