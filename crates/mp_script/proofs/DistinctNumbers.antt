-- Different numbers that are those of a range are as many as the range has.
use Rattle.std.proofs.Common.{◌≡◌, ◌≢◌, ℕ, zero, suc, ◌+◌, ◌<◌, ◌≤◌, ◌==◌, if◌then◌else◌, Bool, true, false, cond, List, [], ◌∷◌, length, refl, sym, ap, subst, ◌∙◌, inl, inr, arith, eq-eqb}
use Rattle.std.proofs.lemmas.Bool.{cases_lt, eqb-true, cases_Bool}
use mathlib.Core.Bool.{false≢true}
use Rattle.mp_machine.specs.Lists.{IsIn}
use Rattle.mp_script.proofs.Ordered.{Pairwise}

-- a list without the first that is this number
abbrev without : ℕ → List ℕ → List ℕ
without n [] = []
without n (x ∷ xs) = if x == n then xs else x ∷ without n xs

dropped : (n x : ℕ) (xs : List ℕ) → (x == n) ≡ true → without n (x ∷ xs) ≡ xs
dropped n x xs e = ap (λ (b : Bool). cond b xs (x ∷ without n xs)) e

kept_one : (n x : ℕ) (xs : List ℕ) → (x == n) ≡ false → without n (x ∷ xs) ≡ x ∷ without n xs
kept_one n x xs e = ap (λ (b : Bool). cond b xs (x ∷ without n xs)) e

without_length : (n : ℕ) (xs : List ℕ) → IsIn n xs → length xs ≡ suc (length (without n xs))
without_length n [] h = absurd h
without_length n (x ∷ xs) h = elim (cases_Bool (x == n)) [
  | inl e ↦ ap (λ (l : List ℕ). suc (length l)) (sym (dropped n x xs e))
  | inr e ↦ elim h [
    | inl same ↦ absurd (false≢true (sym e ∙ eq-eqb x n (sym same)))
    | inr there ↦ ap suc (without_length n xs there) ∙ ap (λ (l : List ℕ). suc (length l)) (sym (kept_one n x xs e))
  ]
]

without_in : (n y : ℕ) (xs : List ℕ) → IsIn y (without n xs) → IsIn y xs
without_in n y [] h = absurd h
without_in n y (x ∷ xs) h = elim (cases_Bool (x == n)) [
  | inl e ↦ inr (subst (IsIn y) (dropped n x xs e) h)
  | inr e ↦ elim (subst (IsIn y) (kept_one n x xs e) h) [
    | inl same ↦ inl same
    | inr there ↦ inr (without_in n y xs there)
  ]
]

in_without : (n y : ℕ) (xs : List ℕ) → IsIn y xs → y ≢ n → IsIn y (without n xs)
in_without n y [] h ne = absurd h
in_without n y (x ∷ xs) h ne = elim (cases_Bool (x == n)) [
  | inl e ↦ elim h [
    | inl same ↦ absurd (ne (same ∙ eqb-true x n e))
    | inr there ↦ subst (IsIn y) (sym (dropped n x xs e)) there
  ]
  | inr e ↦ elim h [
    | inl same ↦ subst (IsIn y) (sym (kept_one n x xs e)) (inl same)
    | inr there ↦ subst (IsIn y) (sym (kept_one n x xs e)) (inr (in_without n y xs there ne))
  ]
]

abbrev pub AreApart : List ℕ → Type 0
AreApart xs = Pairwise (λ a b. a ≢ b) xs

without_apart : (n : ℕ) (xs : List ℕ) → AreApart xs → AreApart (without n xs)
without_apart n [] a = tt
without_apart n (x ∷ xs) a = elim (cases_Bool (x == n)) [
  | inl e ↦ subst AreApart (sym (dropped n x xs e)) a.1
  | inr e ↦ subst AreApart (sym (kept_one n x xs e)) (λ y there. a.0 y (without_in n y xs there), without_apart n xs a.1)
]

-- it isn't there any more
not_without : (n : ℕ) (xs : List ℕ) → AreApart xs → IsIn n (without n xs) → ⊥
not_without n [] a h = h
not_without n (x ∷ xs) a h = elim (cases_Bool (x == n)) [
  | inl e ↦ a.0 n (subst (IsIn n) (dropped n x xs e) h) (eqb-true x n e)
  | inr e ↦ elim (subst (IsIn n) (kept_one n x xs e) h) [
    | inl same ↦ false≢true (sym e ∙ eq-eqb x n (sym same))
    | inr there ↦ not_without n xs a.1 there
  ]
]

pub as_many : (base count : ℕ) (xs : List ℕ) → AreApart xs → ((n : ℕ) → IsIn n xs → (base < n) × (n ≤ base + count)) → ((n : ℕ) → base < n → n ≤ base + count → IsIn n xs) → length xs ≡ count
as_many base zero [] apart within each = refl
as_many base zero (x ∷ xs) apart within each = let bounds = within x (inl refl) in let low = bounds.0 in let high = bounds.1 in absurd (omega (arith, low, high))
as_many base (suc count) xs apart within each =
    let last = each (base + suc count) (omega arith) (omega arith) in
    let rest = as_many base count (without (base + suc count) xs) (without_apart (base + suc count) xs apart)
    (λ n there.
    let bounds = within n (without_in (base + suc count) n xs there) in
    let low = bounds.0 in
    let high = bounds.1 in (
      low,
      elim (cases_lt n (base + suc count)) [
        | inl lt ↦ omega (arith, lt)
        | inr ge ↦
            let is : n ≡ base + suc count = omega (arith, high, ge) in
            absurd (not_without (base + suc count) xs apart (subst (λ (k : ℕ). IsIn k (without (base + suc count) xs)) is there))
      ],
    ))
    (λ n low high. in_without (base + suc count) n xs (each n low (omega (arith, high))) (λ e. absurd (omega (arith, e, high)))) in
    without_length (base + suc count) xs last ∙ ap suc rest
