-- Options and lists that are equal, and lists with items left out.
use Rattle.std.proofs.Common.{◌≡◌, Bool, true, false, cond, List, [], ◌∷◌, ◌++◌, filter, Option, Some, None, refl, ap}

module _ {T : Type 0} where
  pub some_same : (x y : T) → Some x ≡ Some y → x ≡ y
  some_same x y e = cc

  pub none_some : (x : T) → ◌≡◌ {A = Option T} None (Some x) → ⊥
  none_some x e = absurd cc

  pub heads_same : (x y : T) (xs ys : List T) → x ∷ xs ≡ y ∷ ys → x ≡ y
  heads_same x y xs ys e = cc

  pub tails_same : (x y : T) (xs ys : List T) → x ∷ xs ≡ y ∷ ys → xs ≡ ys
  tails_same x y xs ys e = cc

  pub nothing_there : (x : T) (xs : List T) → ◌≡◌ {A = List T} [] (x ∷ xs) → ⊥
  nothing_there x xs e = absurd cc

  -- an item between two lists ends the first
  pub append_middle : (xs : List T) (y : T) (ys : List T) → xs ++ y ∷ ys ≡ (xs ++ y ∷ []) ++ ys
  append_middle [] y ys = refl
  append_middle (x ∷ xs) y ys = ap (λ (zs : List T). x ∷ zs) (append_middle xs y ys)

  pub filter-in : (p : T → Bool) (x : T) (xs : List T) → p x ≡ true → filter p (x ∷ xs) ≡ x ∷ filter p xs
  filter-in p x xs e = ap (λ (b : Bool). cond b (x ∷ filter p xs) (filter p xs)) e

  pub filter-out : (p : T → Bool) (x : T) (xs : List T) → p x ≡ false → filter p (x ∷ xs) ≡ filter p xs
  filter-out p x xs e = ap (λ (b : Bool). cond b (x ∷ filter p xs) (filter p xs)) e
