-- Sorting commutes with leaving items out, and leaves a list that ascends.
use Rattle.std.proofs.Common.{◌≡◌, ℕ, ◌≤◌, nat_lt, Bool, true, false, cond, List, [], ◌∷◌, ◌++◌, filter, reverse, refl, sym, ap, subst, ◌∙◌, inl, inr, arith}
use mathlib.Core.Bool.{false≢true}
use Rattle.std.specs.List.{AllByRecursion}
use Rattle.std.proofs.lemmas.Bool.{ltb-true, cases_lt}
use Rattle.std.proofs.lemmas.Bool.Decides.{nat_tests}
use Rattle.std.proofs.lemmas.Grind.{reverse_onto}
use Rattle.std.proofs.lemmas.List.Elements.{filter-append}
use Rattle.mp_cells.specs.Orders.{placed, sorted_by}
use Rattle.mp_cells.proofs.KeyEdits.{All-filter, All-append}
use Rattle.mp_histories.proofs.Writers.{decided}
use Rattle.mp_histories.proofs.Lists.{filter-in, filter-out}

module _ {T : Type 0} where
  pub filter-reverse : (p : T → Bool) (xs : List T) → filter p (reverse xs) ≡ reverse (filter p xs)
  filter-reverse p [] = refl
  filter-reverse p (x ∷ xs) =
      ap (filter p) (reverse_onto xs x []) ∙ filter-append p (reverse xs) (x ∷ []) ∙ ap (λ (ys : List T). ys ++ filter p (x ∷ [])) (filter-reverse p xs)
      ∙ (elim (decided (p x)) [
        | inl e ↦ ap (λ (ys : List T). reverse (filter p xs) ++ ys) (filter-in p x [] e) ∙ sym (reverse_onto (filter p xs) x []) ∙ ap reverse (sym (filter-in p x xs e))
        | inr e ↦ ap (λ (ys : List T). reverse (filter p xs) ++ ys) (filter-out p x [] e) ∙ nothing (reverse (filter p xs)) ∙ ap reverse (sym (filter-out p x xs e))
      ])
    where
      nothing : (ys : List T) → ys ++ [] ≡ ys
      nothing [] = refl
      nothing (y ∷ ys) = ap (λ (zs : List T). y ∷ zs) (nothing ys)

  pub filter-swap : (p q : T → Bool) (xs : List T) → filter p (filter q xs) ≡ filter q (filter p xs)
  filter-swap p q [] = refl
  filter-swap p q (x ∷ xs) = elim (decided (p x)) [
    | inl e ↦ elim (decided (q x)) [
      | inl f ↦ ap (filter p) (filter-in q x xs f) ∙ filter-in p x (filter q xs) e ∙ ap (λ (ys : List T). x ∷ ys) (filter-swap p q xs) ∙ sym (filter-in q x (filter p xs) f) ∙ ap (filter q) (sym (filter-in p x xs e))
      | inr f ↦ ap (filter p) (filter-out q x xs f) ∙ filter-swap p q xs ∙ sym (filter-out q x (filter p xs) f) ∙ ap (filter q) (sym (filter-in p x xs e))
    ]
    | inr e ↦ elim (decided (q x)) [
      | inl f ↦ ap (filter p) (filter-in q x xs f) ∙ filter-out p x (filter q xs) e ∙ filter-swap p q xs ∙ ap (filter q) (sym (filter-out p x xs e))
      | inr f ↦ ap (filter p) (filter-out q x xs f) ∙ filter-swap p q xs ∙ ap (filter q) (sym (filter-out p x xs e))
    ]
  ]

  module _ (k : T → ℕ) where
    -- no number is above a later one
    abbrev pub Ascends : List T → Type 0
    Ascends [] = Unit {0}
    Ascends (x ∷ xs) = AllByRecursion (λ y. k x ≤ k y) xs × Ascends xs

    placed_first : (x : T) (xs : List T) → AllByRecursion (λ y. k x ≤ k y) xs → placed k x xs ≡ x ∷ xs
    placed_first x [] h = refl
    placed_first x (y ∷ ys) h =
        let test : nat_lt (k y) (k x) ≡ false = grind (arith, nat_tests, h.0) in
        ap (λ (b : Bool). cond b (y ∷ placed k x ys) (x ∷ (y ∷ ys))) test

    placed-past : (x y : T) (ys : List T) → nat_lt (k y) (k x) ≡ true → placed k x (y ∷ ys) ≡ y ∷ placed k x ys
    placed-past x y ys e = ap (λ (b : Bool). cond b (y ∷ placed k x ys) (x ∷ (y ∷ ys))) e

    placed-here : (x y : T) (ys : List T) → nat_lt (k y) (k x) ≡ false → placed k x (y ∷ ys) ≡ x ∷ (y ∷ ys)
    placed-here x y ys e = ap (λ (b : Bool). cond b (y ∷ placed k x ys) (x ∷ (y ∷ ys))) e

    not_less : (a b : ℕ) → nat_lt a b ≡ false → b ≤ a
    not_less a b e = elim (cases_lt a b) [
      | inl lt ↦ let test : nat_lt a b ≡ true = grind (arith, nat_tests) in absurd (false≢true (sym e ∙ test))
      | inr le ↦ le
    ]

    all_more : (low high : ℕ) (xs : List T) → low ≤ high → AllByRecursion (λ y. high ≤ k y) xs → AllByRecursion (λ y. low ≤ k y) xs
    all_more low high [] le h = tt
    all_more low high (x ∷ xs) le h = (omega (arith, h.0), all_more low high xs le h.1)

    pub all_placed : (P : T → Type 0) (x : T) (xs : List T) → P x → AllByRecursion P xs → AllByRecursion P (placed k x xs)
    all_placed P x [] here h = (here, tt)
    all_placed P x (y ∷ ys) here h = elim (decided (nat_lt (k y) (k x))) [
      | inl e ↦ subst (AllByRecursion P) (sym (placed-past x y ys e)) (h.0, all_placed P x ys here h.1)
      | inr e ↦ subst (AllByRecursion P) (sym (placed-here x y ys e)) (here, h)
    ]

    pub all_sorted : (P : T → Type 0) (xs : List T) → AllByRecursion P xs → AllByRecursion P (sorted_by k xs)
    all_sorted P [] h = tt
    all_sorted P (x ∷ xs) h = all_placed P x (sorted_by k xs) h.0 (all_sorted P xs h.1)

    ascends_placed : (x : T) (xs : List T) → Ascends xs → Ascends (placed k x xs)
    ascends_placed x [] h = (tt, tt)
    ascends_placed x (y ∷ ys) h = elim (decided (nat_lt (k y) (k x))) [
      | inl e ↦
          let le : k y ≤ k x = omega (arith, ltb-true (k y) (k x) e) in
          subst Ascends (sym (placed-past x y ys e)) (all_placed (λ (z : T). k y ≤ k z) x ys le h.0, ascends_placed x ys h.1)
      | inr e ↦
          let le : k x ≤ k y = not_less (k y) (k x) e in
          subst Ascends (sym (placed-here x y ys e)) ((le, all_more (k x) (k y) ys le h.0), h)
    ]

    pub ascends_sorted : (xs : List T) → Ascends (sorted_by k xs)
    ascends_sorted [] = tt
    ascends_sorted (x ∷ xs) = ascends_placed x (sorted_by k xs) (ascends_sorted xs)

    filter_placed-in : (p : T → Bool) (x : T) (xs : List T) → p x ≡ true → Ascends xs → filter p (placed k x xs) ≡ placed k x (filter p xs)
    filter_placed-in p x [] in_it h = filter-in p x [] in_it
    filter_placed-in p x (y ∷ ys) in_it h = elim (decided (nat_lt (k y) (k x))) [
      | inl e ↦
          let rest = filter_placed-in p x ys in_it h.1 in
          ap (filter p) (placed-past x y ys e) ∙ (elim (decided (p y)) [
            | inl f ↦ filter-in p y (placed k x ys) f ∙ ap (λ (zs : List T). y ∷ zs) rest ∙ sym (placed-past x y (filter p ys) e) ∙ ap (placed k x) (sym (filter-in p y ys f))
            | inr f ↦ filter-out p y (placed k x ys) f ∙ rest ∙ ap (placed k x) (sym (filter-out p y ys f))
          ])
      | inr e ↦
          let le : k x ≤ k y = not_less (k y) (k x) e in
          let all : AllByRecursion (λ (z : T). k x ≤ k z) (y ∷ ys) = (le, all_more (k x) (k y) ys le h.0) in
          ap (filter p) (placed-here x y ys e) ∙ filter-in p x (y ∷ ys) in_it
          ∙ sym (placed_first x (filter p (y ∷ ys)) (All-filter (λ (z : T). k x ≤ k z) p (y ∷ ys) all))
    ]

    filter_placed-out : (p : T → Bool) (x : T) (xs : List T) → p x ≡ false → filter p (placed k x xs) ≡ filter p xs
    filter_placed-out p x [] out = filter-out p x [] out
    filter_placed-out p x (y ∷ ys) out = elim (decided (nat_lt (k y) (k x))) [
      | inl e ↦
          let rest = filter_placed-out p x ys out in
          ap (filter p) (placed-past x y ys e) ∙ (elim (decided (p y)) [
            | inl f ↦ filter-in p y (placed k x ys) f ∙ ap (λ (zs : List T). y ∷ zs) rest ∙ sym (filter-in p y ys f)
            | inr f ↦ filter-out p y (placed k x ys) f ∙ rest ∙ sym (filter-out p y ys f)
          ])
      | inr e ↦ ap (filter p) (placed-here x y ys e) ∙ filter-out p x (y ∷ ys) out
    ]

    pub filter_sorted : (p : T → Bool) (xs : List T) → filter p (sorted_by k xs) ≡ sorted_by k (filter p xs)
    filter_sorted p [] = refl
    filter_sorted p (x ∷ xs) = elim (decided (p x)) [
      | inl e ↦ filter_placed-in p x (sorted_by k xs) e (ascends_sorted xs) ∙ ap (placed k x) (filter_sorted p xs) ∙ ap (sorted_by k) (sym (filter-in p x xs e))
      | inr e ↦ filter_placed-out p x (sorted_by k xs) e ∙ filter_sorted p xs ∙ ap (sorted_by k) (sym (filter-out p x xs e))
    ]

    pub sorted_already : (xs : List T) → Ascends xs → sorted_by k xs ≡ xs
    sorted_already [] h = refl
    sorted_already (x ∷ xs) h = ap (placed k x) (sorted_already xs h.1) ∙ placed_first x xs h.0

    -- what descends, ascends from its end
    abbrev pub Descends : List T → Type 0
    Descends [] = Unit {0}
    Descends (x ∷ xs) = AllByRecursion (λ y. k y ≤ k x) xs × Descends xs

    ascends_more : (xs : List T) (x : T) → Ascends xs → AllByRecursion (λ y. k y ≤ k x) xs → Ascends (xs ++ x ∷ [])
    ascends_more [] x a h = (tt, tt)
    ascends_more (y ∷ ys) x a h = (All-append (λ (z : T). k y ≤ k z) ys (x ∷ []) a.0 (h.0, tt), ascends_more ys x a.1 h.1)

    pub all_reverse : (P : T → Type 0) (xs : List T) → AllByRecursion P xs → AllByRecursion P (reverse xs)
    all_reverse P [] h = tt
    all_reverse P (x ∷ xs) h = subst (AllByRecursion P) (sym (reverse_onto xs x [])) (All-append P (reverse xs) (x ∷ []) (all_reverse P xs h.1) (h.0, tt))

    pub ascends_reverse : (xs : List T) → Descends xs → Ascends (reverse xs)
    ascends_reverse [] h = tt
    ascends_reverse (x ∷ xs) h = subst Ascends (sym (reverse_onto xs x [])) (ascends_more (reverse xs) x (ascends_reverse xs h.1) (all_reverse (λ (y : T). k y ≤ k x) xs h.0))
