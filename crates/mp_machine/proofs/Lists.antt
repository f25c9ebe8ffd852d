-- One item more: what stands in the list, what differs, and what a sum over nodes becomes.
use Rattle.std.proofs.Common.{◌≡◌, ℕ, zero, suc, ◌+◌, ◌*◌, ◌<◌, ◌≤◌, ◌⊎◌, List, [], ◌∷◌, ◌++◌, length, if◌then◌else◌, refl, sym, ap, ◌∙◌, subst, inl, inr, ⊎_elim, arith, eq-eqb, ne_eqb, append_assoc, add-one}
use mathlib.Core.Logic.{dite}
use native.Mathlib.Decide.{ℕ_discrete}
use Rattle.mp_machine.specs.Lists.{IsIn, AllDiffer, Grows, updated, pushed, total}

module _ {T : Type 0} where
  pub updated_here : (f : ℕ → T) (n : ℕ) (x : T) → updated f n x n ≡ x
  updated_here f n x = ap (λ b. if b then x else f n) (eq-eqb n n refl)

  pub updated_else : (f : ℕ → T) (n : ℕ) (x : T) (k : ℕ) → ¬ (k ≡ n) → updated f n x k ≡ f k
  updated_else f n x k d = ap (λ b. if b then x else f k) (ne_eqb k n d)

  pub updated_same : (f : ℕ → T) (n : ℕ) (k : ℕ) → updated f n (f n) k ≡ f k
  updated_same f n k =
      dite (ℕ_discrete k n)
      (λ same. ap (updated f n (f n)) same ∙ updated_here f n (f n) ∙ ap f (sym same))
      (λ other. updated_else f n (f n) k other)

module _ {T : Type 0} where
  pub pushed_here : (f : ℕ → List T) (n : ℕ) (x : T) → pushed f n x n ≡ x ∷ f n
  pushed_here f n x = updated_here f n (x ∷ f n)

  pub pushed_else : (f : ℕ → List T) (n : ℕ) (x : T) (k : ℕ) → ¬ (k ≡ n) → pushed f n x k ≡ f k
  pushed_else f n x k d = updated_else f n (x ∷ f n) k d

  -- what stands in a list with one item more is that item or stood there
  pub in_pushed : (f : ℕ → List T) (n : ℕ) (x : T) (k : ℕ) (y : T) → IsIn y (pushed f n x k) → ((k ≡ n) × (y ≡ x)) ⊎ IsIn y (f k)
  in_pushed f n x k y h =
      dite (ℕ_discrete k n)
      (λ same.
      let there : IsIn y (x ∷ f n) = subst (λ l. IsIn y l) (ap (pushed f n x) same ∙ pushed_here f n x) h in
      ⊎_elim (λ (e : y ≡ x). inl (same, e)) (λ (old : IsIn y (f n)). inr (subst (λ j. IsIn y (f j)) (sym same) old)) there)
      (λ other. inr (subst (λ l. IsIn y l) (pushed_else f n x k other) h))

  -- so what holds of the item and held of the others holds of each
  pub each_pushed : (P : ℕ → T → Type 0) (f : ℕ → List T) (n : ℕ) (x : T) → ((k : ℕ) (y : T) → IsIn y (f k) → P k y) → P n x → (k : ℕ) (y : T) → IsIn y (pushed f n x k) → P k y
  each_pushed P f n x old new k y h =
      ⊎_elim
      (λ (e : (k ≡ n) × (y ≡ x)). subst (λ j. P j y) (sym e.0) (subst (λ z. P n z) (sym e.1) new))
      (λ (there : IsIn y (f k)). old k y there)
      (in_pushed f n x k y h)

  pub in_more : (f : ℕ → List T) (n : ℕ) (x : T) (k : ℕ) (y : T) → IsIn y (f k) → IsIn y (pushed f n x k)
  in_more f n x k y h =
      dite (ℕ_discrete k n)
      (λ same. subst (λ l. IsIn y l) (sym (ap (pushed f n x) same ∙ pushed_here f n x)) (inr (subst (λ j. IsIn y (f j)) same h)))
      (λ other. subst (λ l. IsIn y l) (sym (pushed_else f n x k other)) h)

  pub in_new : (f : ℕ → List T) (n : ℕ) (x : T) → IsIn x (pushed f n x n)
  in_new f n x = subst (λ l. IsIn x l) (sym (pushed_here f n x)) (inl refl)

  pub differ_pushed : (number : T → ℕ) (f : ℕ → List T) (n : ℕ) (x : T) → ((k : ℕ) → AllDiffer number (f k)) → ((y : T) → IsIn y (f n) → ¬ (number y ≡ number x)) → (k : ℕ) → AllDiffer number (pushed f n x k)
  differ_pushed number f n x all new k =
      dite (ℕ_discrete k n)
      (λ same. subst (λ l. AllDiffer number l) (sym (ap (pushed f n x) same ∙ pushed_here f n x)) (new, all n))
      (λ other. subst (λ l. AllDiffer number l) (sym (pushed_else f n x k other)) (all k))

  -- two items with one number are one
  pub same_item : (number : T → ℕ) (xs : List T) → AllDiffer number xs → (x y : T) → IsIn x xs → IsIn y xs → number x ≡ number y → x ≡ y
  same_item number [] d x y a b e = absurd a
  same_item number (z ∷ zs) d x y (inl a) (inl b) e = a ∙ sym b
  same_item number (z ∷ zs) d x y (inl a) (inr b) e = absurd (d.0 y b (sym e ∙ ap number a))
  same_item number (z ∷ zs) d x y (inr a) (inl b) e = absurd (d.0 x a (e ∙ ap number b))
  same_item number (z ∷ zs) d x y (inr a) (inr b) e = same_item number zs d.1 x y a b e

  pub grows_refl : (xs : List T) → Grows xs xs
  grows_refl xs = ([], refl)

  pub grows_one : (xs : List T) (x : T) → Grows xs (x ∷ xs)
  grows_one xs x = (x ∷ [], refl)

  pub grows_trans : (xs ys zs : List T) → Grows xs ys → Grows ys zs → Grows xs zs
  grows_trans xs ys zs a b = (b.0 ++ a.0, b.1 ∙ ap (λ l. b.0 ++ l) a.1 ∙ sym (append_assoc b.0 a.0 xs))

  pub in_grown : (xs more : List T) (x : T) → IsIn x xs → IsIn x (more ++ xs)
  in_grown xs [] x h = h
  in_grown xs (y ∷ more) x h = inr (in_grown xs more x h)

  pub in_after : (xs ys : List T) (x : T) → Grows xs ys → IsIn x xs → IsIn x ys
  in_after xs ys x g h = subst (λ l. IsIn x l) (sym g.1) (in_grown xs g.0 x h)

pub total_same : (f g : ℕ → ℕ) (count : ℕ) → ((k : ℕ) → k < count → f k ≡ g k) → total f count ≡ total g count
total_same f g zero same = refl
total_same f g (suc count) same = λ i. total_same f g count (λ k h. same k (omega arith)) i + same count (omega arith) i

total_length_else : {T : Type 0} (f : ℕ → List T) (n : ℕ) (x : T) (count : ℕ) → count ≤ n → total (λ k. length (pushed f n x k)) count ≡ total (λ k. length (f k)) count
total_length_else f n x count h = total_same (λ k. length (pushed f n x k)) (λ k. length (f k)) count (λ k below. ap length (pushed_else f n x k (omega arith)))

pub total_length_pushed : {T : Type 0} (f : ℕ → List T) (n : ℕ) (x : T) (count : ℕ) → n < count → total (λ k. length (pushed f n x k)) count ≡ total (λ k. length (f k)) count + 1
total_length_pushed f n x zero h = absurd (omega arith)
total_length_pushed f n x (suc count) h =
    dite (ℕ_discrete count n)
    (λ same.
    let old = total_length_else f n x count (omega arith) in
    let new : length (pushed f n x count) ≡ length (f count) + 1 = ap (λ j. length (pushed f n x j)) same ∙ ap length (pushed_here f n x) ∙ (omega arith) ∙ ap (λ j. length (f j) + 1) (sym same) in
    omega arith)
    (λ other.
    let below = total_length_pushed f n x count (omega arith) in
    let last : length (pushed f n x count) ≡ length (f count) = ap length (pushed_else f n x count other) in
    omega arith)

bounded_by : (f : ℕ → ℕ) (most count : ℕ) → ((k : ℕ) → f k ≤ most) → total f (suc count) ≤ f 0 + count * most
bounded_by f most zero h = omega arith
bounded_by f most (suc count) h = let before = bounded_by f most count h in let last = h (suc count) in omega arith

-- a sum of bounded numbers is bounded
pub total_bounded : (f : ℕ → ℕ) (most count : ℕ) → ((k : ℕ) → f k ≤ most) → total f (count + 1) ≤ f 0 + count * most
total_bounded f most count h = rw add-one (bounded_by f most count h)
