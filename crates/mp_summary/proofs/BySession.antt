-- A count of items is the sum of the counts of each session's.
use Rattle.std.proofs.Common.{arith, ◌≡◌, ℕ, zero, suc, ◌+◌, ◌<◌, ◌≤◌, ◌==◌, Bool, true, false, cond, List, [], ◌∷◌, map, filter, refl, sym, ap, ap₂, ◌∙◌, inl, inr, eq-eqb}
use Rattle.std.specs.Prelude.{count_by}
use Rattle.std.specs.List.{AllByRecursion}
use Rattle.std.proofs.lemmas.Bool.{cases_lt}
use Rattle.std.proofs.lemmas.Bool.Decides.{nat_tests}
use Rattle.std.proofs.lemmas.List.Sums.{sum_by-cons}
use Rattle.mp_machine.specs.Lists.{total}

module _ {X : Type 0} (session index : X → ℕ) where
  -- the numbers of a session's items
  abbrev pub numbers_of : ℕ → List X → List ℕ
  numbers_of n xs = map index (filter (λ x. session x == n) xs)

  numbers_here : (n : ℕ) (x : X) (xs : List X) → (session x == n) ≡ true → numbers_of n (x ∷ xs) ≡ index x ∷ numbers_of n xs
  numbers_here n x xs e = ap (λ (b : Bool). map index (cond b (x ∷ filter (λ y. session y == n) xs) (filter (λ y. session y == n) xs))) e

  numbers_else : (n : ℕ) (x : X) (xs : List X) → (session x == n) ≡ false → numbers_of n (x ∷ xs) ≡ numbers_of n xs
  numbers_else n x xs e = ap (λ (b : Bool). map index (cond b (x ∷ filter (λ y. session y == n) xs) (filter (λ y. session y == n) xs))) e

  module _ (test : ℕ → ℕ → Bool) where
    -- how many of a session's pass
    abbrev passing : List X → ℕ → ℕ
    passing xs n = count_by (test n) (numbers_of n xs)

    -- an item of a session beyond adds nothing
    beyond : (x : X) (xs : List X) (most : ℕ) → most ≤ session x → total (passing (x ∷ xs)) most ≡ total (passing xs) most
    beyond x xs zero le = refl
    beyond x xs (suc most) le =
        let other : (session x == most) ≡ false = grind (arith, nat_tests, le) in
        ap₂ (λ (a b : ℕ). a + b) (beyond x xs most (omega (arith, le))) (ap (λ (l : List ℕ). count_by (test most) l) (numbers_else most x xs other))

    -- one of a session within adds what it is
    within : (x : X) (xs : List X) (most : ℕ) → session x < most
        → total (passing (x ∷ xs)) most ≡ cond (test (session x) (index x)) 1 0 + total (passing xs) most
    within x xs zero lt = absurd (omega (arith, lt))
    within x xs (suc most) lt = elim (cases_lt (session x) most) [
      | inl under ↦
          let rest = within x xs most under in
          let other : (session x == most) ≡ false = grind (arith, nat_tests, under) in
          let same : passing (x ∷ xs) most ≡ passing xs most = ap (λ (l : List ℕ). count_by (test most) l) (numbers_else most x xs other) in
          omega (arith, rest, same)
      | inr ge ↦
          let is : session x ≡ most = omega (arith, ge, lt) in
          let rest = beyond x xs most ge in
          let here : passing (x ∷ xs) most ≡ cond (test most (index x)) 1 0 + passing xs most =
          ap (λ (l : List ℕ). count_by (test most) l) (numbers_here most x xs (eq-eqb (session x) most is)) ∙ sum_by-cons (λ (i : ℕ). cond (test most i) 1 0) (index x) (numbers_of most xs) in
          let moved : ◌≡◌ {A = ℕ} (cond (test most (index x)) 1 0) (cond (test (session x) (index x)) 1 0) = ap (λ (n : ℕ). cond (test n (index x)) 1 0) (sym is) in
          omega (arith, rest, here, moved)
    ]

    none_pass : (most : ℕ) → total (passing []) most ≡ 0
    none_pass zero = refl
    none_pass (suc most) = let rest = none_pass most in omega (arith, rest)

    pub count_sessions : (most : ℕ) (xs : List X) → AllByRecursion (λ x. session x < most) xs
        → count_by (λ x. test (session x) (index x)) xs ≡ total (passing xs) most
    count_sessions most [] all = sym (none_pass most)
    count_sessions most (x ∷ xs) all =
        let first = sum_by-cons (λ (y : X). cond (test (session y) (index y)) 1 0) x xs in
        let rest = count_sessions most xs all.1 in
        let added = within x xs most all.0 in
        omega (arith, first, rest, added)

-- two lists whose sessions have the same numbers have the same counts
pub same_counts : {X Y : Type 0} (session index : X → ℕ) (its at : Y → ℕ) (test : ℕ → ℕ → Bool) (most : ℕ) (xs : List X) (ys : List Y)
    → AllByRecursion (λ x. session x < most) xs → AllByRecursion (λ y. its y < most) ys → ((n : ℕ) → numbers_of session index n xs ≡ numbers_of its at n ys)
    → count_by (λ x. test (session x) (index x)) xs ≡ count_by (λ y. test (its y) (at y)) ys
same_counts session index its at test most xs ys low high same =
    count_sessions session index test most xs low ∙ totals most ∙ sym (count_sessions its at test most ys high)
  where
    totals : (k : ℕ)
        → total (λ n. count_by (test n) (numbers_of session index n xs)) k ≡ total (λ n. count_by (test n) (numbers_of its at n ys)) k
    totals zero = refl
    totals (suc k) = ap₂ (λ (a b : ℕ). a + b) (totals k) (ap (λ (l : List ℕ). count_by (test k) l) (same k))
