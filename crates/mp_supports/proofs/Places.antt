-- Lists one of whose places is set.
use Rattle.std.proofs.Common.{◌≡◌, ◌≢◌, ℕ, zero, suc, ◌+◌, ◌≤◌, List, [], ◌∷◌, ◌++◌, length, ◌⊎◌, inl, inr, Option, None, Some, slice_get, slice_set, drop, sum_by, refl, sym, ap, subst, arith}
use Rattle.std.proofs.lemmas.List.{length-append}
use Rattle.std.proofs.lemmas.List.Sums.{sum_by-cons}
use Rattle.mp_machine.specs.Lists.{IsIn}

no_place : {T : Type 0} (x : T) → ◌≡◌ {A = Option T} None (Some x) → ⊥
no_place x e = cc

same_item : {T : Type 0} (x y : T) → Some x ≡ Some y → x ≡ y
same_item x y e = cc

module _ {T : Type 0} where
  place_of : (xs : List T) (x : T) → IsIn x xs → (j : ℕ) × (slice_get xs j ≡ Some x)
  place_of [] x h = absurd h
  place_of (z ∷ zs) x (inl e) = (zero, ap (λ (v : T). Some v) (sym e))
  place_of (z ∷ zs) x (inr h) = let at = place_of zs x h in (suc at.0, at.1)

  -- what stands there is what was put, or stood at another place
  pub in_set : (xs : List T) (i : ℕ) (y x : T) → IsIn x (slice_set xs i y) → (x ≡ y) ⊎ ((j : ℕ) × (j ≢ i) × (slice_get xs j ≡ Some x))
  in_set [] i y x h = absurd h
  in_set (z ∷ zs) zero y x (inl e) = inl e
  in_set (z ∷ zs) zero y x (inr h) = let at = place_of zs x h in inr (suc at.0, λ (e : suc at.0 ≡ zero). absurd (omega (arith, e)), at.1)
  in_set (z ∷ zs) (suc i) y x (inl e) = inr (zero, λ (same : zero ≡ suc i). absurd (omega (arith, same)), ap (λ (v : T). Some v) (sym e))
  in_set (z ∷ zs) (suc i) y x (inr h) = elim (in_set zs i y x h) [
    | inl e ↦ inl e
    | inr at ↦ inr (suc at.0, λ (e : suc at.0 ≡ suc i). at.1 (omega (arith, e)), at.2)
  ]

  pub set_in : (xs : List T) (i : ℕ) (s y : T) → slice_get xs i ≡ Some s → IsIn y (slice_set xs i y)
  set_in [] i s y e = absurd (no_place s e)
  set_in (z ∷ zs) zero s y e = inl refl
  set_in (z ∷ zs) (suc i) s y e = inr (set_in zs i s y e)

  -- an item stands still, or stood at that place
  pub still_in : (xs : List T) (i : ℕ) (y x : T) → IsIn x xs → IsIn x (slice_set xs i y) ⊎ (slice_get xs i ≡ Some x)
  still_in [] i y x h = absurd h
  still_in (z ∷ zs) zero y x (inl e) = inr (ap (λ (v : T). Some v) (sym e))
  still_in (z ∷ zs) zero y x (inr h) = inl (inr h)
  still_in (z ∷ zs) (suc i) y x (inl e) = inl (inl e)
  still_in (z ∷ zs) (suc i) y x (inr h) = elim (still_in zs i y x h) [
    | inl there ↦ inl (inr there)
    | inr e ↦ inr e
  ]

  pub at_place : (xs : List T) (i : ℕ) (x : T) → slice_get xs i ≡ Some x → IsIn x xs
  at_place [] i x e = absurd (no_place x e)
  at_place (z ∷ zs) zero x e = inl (sym (same_item z x e))
  at_place (z ∷ zs) (suc i) x e = inr (at_place zs i x e)

  -- a sum changes by what is put
  pub sum_set : (f : T → ℕ) (xs : List T) (i : ℕ) (y s : T) → slice_get xs i ≡ Some s → sum_by f (slice_set xs i y) + f s ≡ sum_by f xs + f y
  sum_set f [] i y s e = absurd (no_place s e)
  sum_set f (z ∷ zs) zero y s e =
      let is : f z ≡ f s = ap f (same_item z s e) in
      let old = sum_by-cons f z zs in
      let new = sum_by-cons f y zs in
      omega (arith, is, old, new)
  sum_set f (z ∷ zs) (suc i) y s e =
      let rest = sum_set f zs i y s e in
      let old = sum_by-cons f z zs in
      let new = sum_by-cons f z (slice_set zs i y) in
      omega (arith, rest, old, new)

  -- from a place on, the item there comes first
  pub drop_at : (xs : List T) (i : ℕ) (x : T) → slice_get xs i ≡ Some x → drop i xs ≡ x ∷ drop (suc i) xs
  drop_at [] i x e = absurd (no_place x e)
  drop_at (z ∷ zs) zero x e = ap (λ (v : T). v ∷ zs) (same_item z x e)
  drop_at (z ∷ zs) (suc i) x e = drop_at zs i x e

  drop_none : (i : ℕ) → ◌≡◌ {A = List T} (drop i []) []
  drop_none zero = refl
  drop_none (suc i) = refl

  -- one item more behind is at most one more from a place on
  pub drop_one_more : (xs : List T) (i : ℕ) (x : T) → length (drop i (xs ++ x ∷ [])) ≤ length (drop i xs) + 1
  drop_one_more xs zero x = let sum : length (xs ++ x ∷ []) ≡ length xs + 1 = length-append xs (x ∷ []) in omega (arith, sum)
  drop_one_more [] (suc i) x = let none = ap (λ (l : List T). length l) (drop_none i) in omega (arith, none)
  drop_one_more (z ∷ zs) (suc i) x = drop_one_more zs i x
