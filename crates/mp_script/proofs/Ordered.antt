-- Which item of a list stands above which, and what holds of each two items of a list.
use Rattle.std.proofs.Common.{◌≡◌, ◌⊎◌, Bool, true, false, cond, List, [], ◌∷◌, ◌++◌, reverse, map, filter, Option, Some, None, refl, sym, ap, subst, ◌∙◌, inl, inr}
use Rattle.std.specs.List.{filter_map, flat_map, AllByRecursion, cons_option}
use Rattle.std.proofs.lemmas.List.{reverse-append}
use Rattle.mp_machine.specs.Lists.{IsIn}
use Rattle.mp_script.specs.Standing.{StandsAbove}

module _ {T : Type 0} where
  -- it holds of each item and each below it
  abbrev pub Pairwise : (T → T → Type 0) → List T → Type 0
  Pairwise P [] = Unit {0}
  Pairwise P (x ∷ xs) = ((y : T) → IsIn y xs → P x y) × Pairwise P xs

  pub above_in : (x y : T) (xs : List T) → StandsAbove x y xs → IsIn x xs × IsIn y xs
  above_in x y [] a = absurd a
  above_in x y (z ∷ zs) (inl a) = (inl (sym a.0), inr a.1)
  above_in x y (z ∷ zs) (inr a) = let rest = above_in x y zs a in (inr rest.0, inr rest.1)

  -- of two items one stands above the other, or they are one
  pub above_or : (x y : T) (xs : List T) → IsIn x xs → IsIn y xs → (x ≡ y) ⊎ (StandsAbove x y xs ⊎ StandsAbove y x xs)
  above_or x y [] a b = absurd a
  above_or x y (z ∷ zs) (inl a) (inl b) = inl (a ∙ sym b)
  above_or x y (z ∷ zs) (inl a) (inr b) = inr (inl (inl (sym a, b)))
  above_or x y (z ∷ zs) (inr a) (inl b) = inr (inr (inl (sym b, a)))
  above_or x y (z ∷ zs) (inr a) (inr b) = elim (above_or x y zs a b) [
    | inl same ↦ inl same
    | inr (inl above) ↦ inr (inl (inr above))
    | inr (inr below) ↦ inr (inr (inr below))
  ]

  pub pair_above : (P : T → T → Type 0) (x y : T) (xs : List T) → Pairwise P xs → StandsAbove x y xs → P x y
  pair_above P x y [] p a = absurd a
  pair_above P x y (z ∷ zs) p (inl a) = subst (λ (k : T). P k y) a.0 (p.0 y a.1)
  pair_above P x y (z ∷ zs) p (inr a) = pair_above P x y zs p.1 a

  pub in_left : (x : T) (xs ys : List T) → IsIn x xs → IsIn x (xs ++ ys)
  in_left x [] ys h = absurd h
  in_left x (z ∷ zs) ys (inl e) = inl e
  in_left x (z ∷ zs) ys (inr h) = inr (in_left x zs ys h)

  pub in_right : (x : T) (xs ys : List T) → IsIn x ys → IsIn x (xs ++ ys)
  in_right x [] ys h = h
  in_right x (z ∷ zs) ys h = inr (in_right x zs ys h)

  pub in_either : (x : T) (xs ys : List T) → IsIn x (xs ++ ys) → IsIn x xs ⊎ IsIn x ys
  in_either x [] ys h = inr h
  in_either x (z ∷ zs) ys (inl e) = inl (inl e)
  in_either x (z ∷ zs) ys (inr h) = elim (in_either x zs ys h) [
    | inl there ↦ inl (inr there)
    | inr there ↦ inr there
  ]

  reverse_first : (x : T) (xs : List T) → reverse (x ∷ xs) ≡ reverse xs ++ x ∷ []
  reverse_first x xs = reverse-append (x ∷ []) xs

  pub in_reverse : (x : T) (xs : List T) → IsIn x xs → IsIn x (reverse xs)
  in_reverse x [] h = absurd h
  in_reverse x (z ∷ zs) (inl e) = subst (IsIn x) (sym (reverse_first z zs)) (in_right x (reverse zs) (z ∷ []) (inl e))
  in_reverse x (z ∷ zs) (inr h) = subst (IsIn x) (sym (reverse_first z zs)) (in_left x (reverse zs) (z ∷ []) (in_reverse x zs h))

  pub from_reverse : (x : T) (xs : List T) → IsIn x (reverse xs) → IsIn x xs
  from_reverse x [] h = absurd h
  from_reverse x (z ∷ zs) h = elim (in_either x (reverse zs) (z ∷ []) (subst (IsIn x) (reverse_first z zs) h)) [
    | inl there ↦ inr (from_reverse x zs there)
    | inr (inl e) ↦ inl e
    | inr (inr none) ↦ absurd none
  ]

  pub pairwise_append : (P : T → T → Type 0) (xs ys : List T) → Pairwise P xs → Pairwise P ys → ((x y : T) → IsIn x xs → IsIn y ys → P x y) → Pairwise P (xs ++ ys)
  pairwise_append P [] ys p q both = q
  pairwise_append P (x ∷ xs) ys p q both = (
    λ y there. elim (in_either y xs ys there) [
      | inl left ↦ p.0 y left
      | inr right ↦ both x y (inl refl) right
    ],
    pairwise_append P xs ys p.1 q (λ a b h k. both a b (inr h) k),
  )

  -- in the other order it holds the other way round
  pub pairwise_reverse : (P : T → T → Type 0) (xs : List T) → Pairwise P xs → Pairwise (λ x y. P y x) (reverse xs)
  pairwise_reverse P [] p = tt
  pairwise_reverse P (x ∷ xs) p = subst (Pairwise (λ a b. P b a)) (sym (reverse_first x xs)) (
      pairwise_append (λ a b. P b a) (reverse xs) (x ∷ []) (pairwise_reverse P xs p.1) (λ y none. absurd none, tt)
      (λ a b h k. elim k [
        | inl e ↦ subst (λ (z : T). P z a) (sym e) (p.0 a (from_reverse a xs h))
        | inr none ↦ absurd none
      ])
      )

  pub from_filter : (test : T → Bool) (x : T) (xs : List T) → IsIn x (filter test xs) → IsIn x xs
  from_filter test x [] h = absurd h
  from_filter test x (z ∷ zs) h = by_test (test z) refl (from_filter test x zs)
    where
      by_test : (b : Bool) → test z ≡ b → (IsIn x (filter test zs) → IsIn x zs) → IsIn x (z ∷ zs)
      by_test true e rest = elim (subst (IsIn x) (ap (λ (c : Bool). cond c (z ∷ filter test zs) (filter test zs)) e) h) [
        | inl same ↦ inl same
        | inr there ↦ inr (rest there)
      ]
      by_test false e rest = inr (rest (subst (IsIn x) (ap (λ (c : Bool). cond c (z ∷ filter test zs) (filter test zs)) e) h))

  pub in_filter : (test : T → Bool) (x : T) (xs : List T) → IsIn x xs → test x ≡ true → IsIn x (filter test xs)
  in_filter test x [] h passes = absurd h
  in_filter test x (z ∷ zs) (inl e) passes = subst (IsIn x) (sym (ap (λ (c : Bool). cond c (z ∷ filter test zs) (filter test zs)) (ap test (sym e) ∙ passes))) (inl e)
  in_filter test x (z ∷ zs) (inr h) passes = by_test (test z) refl (in_filter test x zs h passes)
    where
      by_test : (b : Bool) → test z ≡ b → IsIn x (filter test zs) → IsIn x (filter test (z ∷ zs))
      by_test true e rest = subst (IsIn x) (sym (ap (λ (c : Bool). cond c (z ∷ filter test zs) (filter test zs)) e)) (inr rest)
      by_test false e rest = subst (IsIn x) (sym (ap (λ (c : Bool). cond c (z ∷ filter test zs) (filter test zs)) e)) rest

  pub pairwise_filter : (P : T → T → Type 0) (test : T → Bool) (xs : List T) → Pairwise P xs → Pairwise P (filter test xs)
  pairwise_filter P test [] p = tt
  pairwise_filter P test (z ∷ zs) p = by_test (test z) refl (pairwise_filter P test zs p.1)
    where
      by_test : (b : Bool) → test z ≡ b → Pairwise P (filter test zs) → Pairwise P (filter test (z ∷ zs))
      by_test true e rest = subst (Pairwise P) (sym (ap (λ (c : Bool). cond c (z ∷ filter test zs) (filter test zs)) e)) (λ y there. p.0 y (from_filter test y zs there), rest)
      by_test false e rest = subst (Pairwise P) (sym (ap (λ (c : Bool). cond c (z ∷ filter test zs) (filter test zs)) e)) rest

  pub all_in : (P : T → Type 0) (x : T) (xs : List T) → AllByRecursion P xs → IsIn x xs → P x
  all_in P x [] all h = absurd h
  all_in P x (z ∷ zs) all (inl e) = subst P (sym e) all.0
  all_in P x (z ∷ zs) all (inr h) = all_in P x zs all.1 h

module _ {X Y : Type 0} (f : X → Option Y) where
  kept_some : (x : X) (xs : List X) (y : Y) → f x ≡ Some y → filter_map f (x ∷ xs) ≡ y ∷ filter_map f xs
  kept_some x xs y e = ap (λ (o : Option Y). cons_option o (filter_map f xs)) e

  kept_none : (x : X) (xs : List X) → f x ≡ None → filter_map f (x ∷ xs) ≡ filter_map f xs
  kept_none x xs e = ap (λ (o : Option Y). cons_option o (filter_map f xs)) e

  -- what is found in the first item, before what is found in the others
  found_more : (y : Y) (x : X) (xs : List X) → IsIn y (filter_map f xs) → IsIn y (filter_map f (x ∷ xs))
  found_more y x xs h = by_found (f x) refl
    where
      by_found : (o : Option Y) → f x ≡ o → IsIn y (filter_map f (x ∷ xs))
      by_found None e = subst (IsIn y) (sym (kept_none x xs e)) h
      by_found (Some z) e = subst (IsIn y) (sym (kept_some x xs z e)) (inr h)

  pub in_found : (x : X) (xs : List X) (y : Y) → IsIn x xs → f x ≡ Some y → IsIn y (filter_map f xs)
  in_found x [] y h e = absurd h
  in_found x (z ∷ zs) y (inl same) e = subst (IsIn y) (sym (kept_some z zs y (ap f (sym same) ∙ e))) (inl refl)
  in_found x (z ∷ zs) y (inr h) e = found_more y z zs (in_found x zs y h e)

  pub from_found : (xs : List X) (y : Y) → IsIn y (filter_map f xs) → (x : X) × IsIn x xs × (f x ≡ Some y)
  from_found [] y h = absurd h
  from_found (z ∷ zs) y h = by_found (f z) refl (from_found zs y)
    where
      by_found : (o : Option Y) → f z ≡ o → (IsIn y (filter_map f zs) → (x : X) × IsIn x zs × (f x ≡ Some y)) → (x : X) × IsIn x (z ∷ zs) × (f x ≡ Some y)
      by_found None e rest = let there = rest (subst (IsIn y) (kept_none z zs e) h) in (there.0, inr there.1, there.2)
      by_found (Some k) e rest = elim (subst (IsIn y) (kept_some z zs k e) h) [
        | inl same ↦ (z, inl refl, e ∙ ap (λ (j : Y). Some j) (sym same))
        | inr h' ↦ let there = rest h' in (there.0, inr there.1, there.2)
      ]

  -- and in their order
  pub above_found : (x z : X) (xs : List X) (y k : Y) → StandsAbove x z xs → f x ≡ Some y → f z ≡ Some k → StandsAbove y k (filter_map f xs)
  above_found x z [] y k a e g = absurd a
  above_found x z (v ∷ vs) y k (inl a) e g = subst (StandsAbove y k) (sym (kept_some v vs y (ap f a.0 ∙ e))) (inl (refl, in_found z vs k a.1 g))
  above_found x z (v ∷ vs) y k (inr a) e g = by_found (f v) refl (above_found x z vs y k a e g)
    where
      by_found : (o : Option Y) → f v ≡ o → StandsAbove y k (filter_map f vs) → StandsAbove y k (filter_map f (v ∷ vs))
      by_found None n rest = subst (StandsAbove y k) (sym (kept_none v vs n)) rest
      by_found (Some j) n rest = subst (StandsAbove y k) (sym (kept_some v vs j n)) (inr rest)

  -- what stands above what among them was found in items that stand so
  pub from_above_found : (xs : List X) (y k : Y) → StandsAbove y k (filter_map f xs) → (x : X) × (z : X) × StandsAbove x z xs × (f x ≡ Some y) × (f z ≡ Some k)
  from_above_found [] y k a = absurd a
  from_above_found (v ∷ vs) y k a = by_found (f v) refl (from_above_found vs y k)
    where
      by_found : (o : Option Y) → f v ≡ o → (StandsAbove y k (filter_map f vs) → (x : X) × (z : X) × StandsAbove x z vs × (f x ≡ Some y) × (f z ≡ Some k)) → (x : X) × (z : X) × StandsAbove x z (v ∷ vs) × (f x ≡ Some y) × (f z ≡ Some k)
      by_found None e rest = let r = rest (subst (StandsAbove y k) (kept_none v vs e) a) in (r.0, r.1, inr r.2, r.3, r.4)
      by_found (Some j) e rest = elim (subst (StandsAbove y k) (kept_some v vs j e) a) [
        | inl h ↦
            let there = from_found vs k h.1 in
            (v, there.0, inl (refl, there.1), e ∙ ap (λ (i : Y). Some i) h.0, there.2)
        | inr h ↦ let r = rest h in (r.0, r.1, inr r.2, r.3, r.4)
      ]

module _ {X Y : Type 0} (f : X → Y) where
  pub in_map : (x : X) (xs : List X) → IsIn x xs → IsIn (f x) (map f xs)
  in_map x [] h = absurd h
  in_map x (z ∷ zs) (inl e) = inl (ap f e)
  in_map x (z ∷ zs) (inr h) = inr (in_map x zs h)

  pub from_map : (xs : List X) (y : Y) → IsIn y (map f xs) → (x : X) × IsIn x xs × (f x ≡ y)
  from_map [] y h = absurd h
  from_map (z ∷ zs) y (inl e) = (z, inl refl, sym e)
  from_map (z ∷ zs) y (inr h) = let rest = from_map zs y h in (rest.0, inr rest.1, rest.2)

  -- what stands above what in a mapped list
  pub from_above_map : (xs : List X) (y k : Y) → StandsAbove y k (map f xs) → (x : X) × (z : X) × StandsAbove x z xs × (f x ≡ y) × (f z ≡ k)
  from_above_map [] y k a = absurd a
  from_above_map (v ∷ vs) y k (inl h) = let there = from_map vs k h.1 in (v, there.0, inl (refl, there.1), h.0, there.2)
  from_above_map (v ∷ vs) y k (inr h) = let r = from_above_map vs y k h in (r.0, r.1, inr r.2, r.3, r.4)

module _ {X Y : Type 0} (f : X → List Y) where
  pub in_flat : (x : X) (xs : List X) (y : Y) → IsIn x xs → IsIn y (f x) → IsIn y (flat_map f xs)
  in_flat x [] y h k = absurd h
  in_flat x (z ∷ zs) y (inl e) k = in_left y (f z) (flat_map f zs) (subst (λ (v : X). IsIn y (f v)) e k)
  in_flat x (z ∷ zs) y (inr h) k = in_right y (f z) (flat_map f zs) (in_flat x zs y h k)

  pub from_flat : (xs : List X) (y : Y) → IsIn y (flat_map f xs) → (x : X) × IsIn x xs × IsIn y (f x)
  from_flat [] y h = absurd h
  from_flat (z ∷ zs) y h = elim (in_either y (f z) (flat_map f zs) h) [
    | inl here ↦ (z, inl refl, here)
    | inr there ↦ let rest = from_flat zs y there in (rest.0, inr rest.1, rest.2)
  ]

module _ {T : Type 0} where
  -- in two lists, one behind the other
  pub above_append : (a b : T) (xs ys : List T) → StandsAbove a b (xs ++ ys) → StandsAbove a b xs ⊎ (StandsAbove a b ys ⊎ (IsIn a xs × IsIn b ys))
  above_append a b [] ys h = inr (inl h)
  above_append a b (x ∷ xs) ys (inl h) = elim (in_either b xs ys h.1) [
    | inl left ↦ inl (inl (h.0, left))
    | inr right ↦ inr (inr (inl (sym h.0), right))
  ]
  above_append a b (x ∷ xs) ys (inr h) = elim (above_append a b xs ys h) [
    | inl left ↦ inl (inr left)
    | inr (inl right) ↦ inr (inl right)
    | inr (inr both) ↦ inr (inr (inr both.0, both.1))
  ]

  pub above_filter : (test : T → Bool) (x y : T) (xs : List T) → StandsAbove x y xs → test x ≡ true → test y ≡ true → StandsAbove x y (filter test xs)
  above_filter test x y [] h p q = absurd h
  above_filter test x y (z ∷ zs) (inl h) p q = subst (StandsAbove x y) (sym (ap (λ (c : Bool). cond c (z ∷ filter test zs) (filter test zs)) (ap test h.0 ∙ p))) (inl (h.0, in_filter test y zs h.1 q))
  above_filter test x y (z ∷ zs) (inr h) p q = by_test (test z) refl (above_filter test x y zs h p q)
    where
      by_test : (b : Bool) → test z ≡ b → StandsAbove x y (filter test zs) → StandsAbove x y (filter test (z ∷ zs))
      by_test true e rest = subst (StandsAbove x y) (sym (ap (λ (c : Bool). cond c (z ∷ filter test zs) (filter test zs)) e)) (inr rest)
      by_test false e rest = subst (StandsAbove x y) (sym (ap (λ (c : Bool). cond c (z ∷ filter test zs) (filter test zs)) e)) rest

module _ {X Y : Type 0} where
  pub above_map : (f : X → Y) (x y : X) (xs : List X) → StandsAbove x y xs → StandsAbove (f x) (f y) (map f xs)
  above_map f x y [] h = absurd h
  above_map f x y (z ∷ zs) (inl h) = inl (ap f h.0, in_map f y zs h.1)
  above_map f x y (z ∷ zs) (inr h) = inr (above_map f x y zs h)

  -- in lists put together, one above the other stands so in one list, or their lists do
  pub from_above_flat : (f : X → List Y) (xs : List X) (a b : Y) → StandsAbove a b (flat_map f xs) → ((x : X) × IsIn x xs × StandsAbove a b (f x)) ⊎ ((x : X) × (z : X) × StandsAbove x z xs × IsIn a (f x) × IsIn b (f z))
  from_above_flat f [] a b h = absurd h
  from_above_flat f (v ∷ vs) a b h = elim (above_append a b (f v) (flat_map f vs) h) [
    | inl here ↦ inl (v, inl refl, here)
    | inr (inl there) ↦ elim (from_above_flat f vs a b there) [
      | inl one ↦ inl (one.0, inr one.1, one.2)
      | inr two ↦ inr (two.0, two.1, inr two.2, two.3, two.4)
    ]
    | inr (inr both) ↦ let at = from_flat f vs b both.1 in inr (v, at.0, inl (refl, at.1), both.0, at.2)
  ]
