-- What holds place by place in lists, from one list to the next.
use Rattle.std.proofs.Common.{◌≡◌, ◌≢◌, inl, inr, ℕ, ◌<◌, List, length, slice_get, Some, sym, subst, ◌∙◌, arith}
use Rattle.std.proofs.lemmas.Bool.{cases_lt}
use Rattle.std.proofs.lemmas.Option.{slice_get_cases, slice_get_within}
use Rattle.mp_files.specs.Nine.{At}

pub same_some : {X : Type 0} (x y : X) → Some x ≡ Some y → x ≡ y
same_some x y same = cc

-- what stands at a place below the length
pub at_place : {X : Type 0} (xs : List X) (place : ℕ) → place < length xs → (x : X) × (slice_get xs place ≡ Some x)
at_place xs place lt = elim (slice_get_cases xs place).1 [
  | inl found ↦ (found.0, found.2)
  | inr past ↦ absurd (omega (arith, lt, past.0))
]

module _ {X : Type 0} (R : X → X → Type 0) where
  pub At-refl : ((x : X) → R x x) → (xs : List X) (place : ℕ) → At R xs xs place
  At-refl same xs place = λ x y was now. subst (λ z. R x z) (same_some x y (sym was ∙ now)) (same x)

  pub At-trans : ((a b c : X) → R a b → R b c → R a c) → (xs ys zs : List X) → length ys ≡ length xs → (place : ℕ) → At R xs ys place → At R ys zs place → At R xs zs place
  At-trans on xs ys zs same place first then_ = λ x z was now.
      let mid = at_place ys place (omega (arith, slice_get_within xs place x was, same)) in
      on x mid.0 z (first x mid.0 was mid.1) (then_ mid.0 z mid.1 now)

  -- where one place changed
  pub At-one : (xs ys zs : List X) (changed : ℕ) → ((place : ℕ) → place ≢ changed → slice_get zs place ≡ slice_get ys place)
      → ((place : ℕ) → At R xs ys place) → At R xs zs changed → (place : ℕ) → At R xs zs place
  At-one xs ys zs changed others so_far this place = λ x z was now. elim (cases_lt place changed) [
    | inl below ↦ so_far place x z was (sym (others place (λ e. absurd (omega (arith, e, below)))) ∙ now)
    | inr above ↦ elim (cases_lt changed place) [
      | inl over ↦ so_far place x z was (sym (others place (λ e. absurd (omega (arith, e, over)))) ∙ now)
      | inr under ↦ let e : place ≡ changed = omega (arith, above, under) in
          this x z (subst (λ n. slice_get xs n ≡ Some x) e was) (subst (λ n. slice_get zs n ≡ Some z) e now)
    ]
  ]
