-- How often numbers are used: over joined lists, and how many there may be where none is used twice.
use Rattle.std.proofs.Common.{◌≡◌, ◌≢◌, ℕ, ◌+◌, ◌<◌, ◌≤◌, ◌==◌, Bool, true, false, eqb, ◌||◌, List, [], ◌∷◌, ◌++◌, length, refl, sym, ap, inl, inr, arith}
use mathlib.Core.Bool.{false≢true}
use Rattle.std.specs.List.{AllByRecursion, IsDistinct, list_any}
use Rattle.std.proofs.lemmas.Bool.{cases_eq, eqb-true, eq-eqb}
use Rattle.std.proofs.lemmas.Bool.Decides.{nat_tests}
use Rattle.std.proofs.lemmas.Map.Steps.{length-le_from_distinct_below}
use Rattle.mp_cells.specs.Trees.{one_if, uses}

pub uses-append : (n : ℕ) (xs ys : List ℕ) → uses n (xs ++ ys) ≡ uses n xs + uses n ys
uses-append n [] ys = omega arith
uses-append n (x ∷ xs) ys = omega (arith, uses-append n xs ys)

pub one_if-same : (n : ℕ) → one_if (n == n) ≡ 1
one_if-same n = ap one_if (eq-eqb n n refl)

pub one_if-other : (m n : ℕ) → m ≢ n → one_if (m == n) ≡ 0
one_if-other m n other = let test : (m == n) ≡ false = grind (arith, nat_tests) in ap one_if test

pub one_if-most : (b : Bool) → one_if b ≤ 1
one_if-most true = omega arith
one_if-most false = omega arith

pub one_if-is : (m n : ℕ) → 1 ≤ one_if (m == n) → m ≡ n
one_if-is m n h = elim (cases_eq m n) [
  | inl same ↦ same
  | inr other ↦ absurd (omega (arith, h, one_if-other m n other))
]

pub uses-head : (n m : ℕ) (xs : List ℕ) → uses n (m ∷ xs) ≡ 0 → (m ≢ n) × (uses n xs ≡ 0)
uses-head n m xs h = (λ (e : m ≡ n). absurd (omega (arith, h, ap (λ (k : ℕ). one_if (k == n)) e, one_if-same n)), omega (arith, h))

-- all are below a bound
abbrev pub AllBelow : ℕ → List ℕ → Type 0
AllBelow bound numbers = AllByRecursion (λ n. n < bound) numbers

all_other : (n : ℕ) (xs : List ℕ) → uses n xs ≡ 0 → AllByRecursion (λ (m : ℕ). eqb n m ≡ false) xs
all_other n [] h = tt
all_other n (x ∷ xs) h =
    let parts = uses-head n x xs h in
    let other : n ≢ x = λ (e : n ≡ x). parts.0 (sym e) in
    let test : eqb n x ≡ false = grind (arith, nat_tests) in
    (test, all_other n xs parts.1)

distinct : (bound : ℕ) (xs : List ℕ) → AllBelow bound xs → ((n : ℕ) → n < bound → uses n xs ≤ 1) → IsDistinct eqb xs
unfolding IsDistinct
distinct bound [] below once = tt
distinct bound (x ∷ xs) below once =
    (all_other x xs (omega (arith, once x below.0, one_if-same x)), distinct bound xs below.1 (λ n lt. omega (arith, once n lt)))

below_any : (bound : ℕ) (xs : List ℕ) → AllBelow bound xs → (q : ℕ) → list_any (eqb q) xs ≡ true → q < bound
below_any bound [] below q h = absurd (false≢true h)
below_any bound (x ∷ xs) below q h = by_test (eqb q x) refl h (below_any bound xs below.1 q)
  where
    by_test : (b : Bool) → eqb q x ≡ b → (b || list_any (eqb q) xs) ≡ true → (list_any (eqb q) xs ≡ true → q < bound) → q < bound
    by_test true e h rest = let same : q ≡ x = eqb-true q x e in omega (arith, below.0)
    by_test false e h rest = rest h

-- numbers below a bound of which none is used twice are no more than the bound
pub length_most : (bound : ℕ) (xs : List ℕ) → AllBelow bound xs → ((n : ℕ) → n < bound → uses n xs ≤ 1) → length xs ≤ bound
length_most bound xs below once = length-le_from_distinct_below xs bound (distinct bound xs below once) (below_any bound xs below)
