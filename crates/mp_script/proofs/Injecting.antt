-- Different numbers, each with an item of its own, are no more than the items.
use Rattle.std.proofs.Common.{◌≡◌, ◌≢◌, ℕ, suc, ◌+◌, ◌≤◌, List, [], ◌∷◌, length, refl, sym, ap, subst, ◌∙◌, inl, inr, arith}
use Rattle.mp_machine.specs.Lists.{IsIn}
use Rattle.mp_script.proofs.Ordered.{Pairwise}

module _ {Y : Type 0} where
  -- a list without an item that is there
  abbrev removed : (ys : List Y) (y : Y) → IsIn y ys → List Y
  removed [] y h = []
  removed (z ∷ zs) y (inl e) = zs
  removed (z ∷ zs) y (inr h) = z ∷ removed zs y h

  removed_length : (ys : List Y) (y : Y) (h : IsIn y ys) → length ys ≡ suc (length (removed ys y h))
  removed_length [] y h = absurd h
  removed_length (z ∷ zs) y (inl e) = refl
  removed_length (z ∷ zs) y (inr h) = ap suc (removed_length zs y h)

  in_removed : (ys : List Y) (y : Y) (h : IsIn y ys) (k : Y) → IsIn k ys → k ≢ y → IsIn k (removed ys y h)
  in_removed [] y h k there ne = absurd h
  in_removed (z ∷ zs) y (inl e) k (inl same) ne = absurd (ne (same ∙ sym e))
  in_removed (z ∷ zs) y (inl e) k (inr there) ne = there
  in_removed (z ∷ zs) y (inr h) k (inl same) ne = inl same
  in_removed (z ∷ zs) y (inr h) k (inr there) ne = inr (in_removed zs y h k there ne)

  module _ (R : ℕ → Y → Type 0) (one : (x k : ℕ) (y : Y) → R x y → R k y → x ≡ k) where
    pub no_more : (xs : List ℕ) (ys : List Y) → Pairwise (λ a b. a ≢ b) xs → ((x : ℕ) → IsIn x xs → (y : Y) × IsIn y ys × R x y) → length xs ≤ length ys
    no_more [] ys apart each = omega arith
    no_more (x ∷ xs) ys apart each =
        let it = each x (inl refl) in
        let rest = no_more xs (removed ys it.0 it.1) apart.1 (λ k there.
        let other = each k (inr there) in
        (other.0, in_removed ys it.0 it.1 other.0 other.1 (λ same. apart.0 k there (one x k it.0 it.2 (subst (R k) same other.2))), other.2)) in
        let long = removed_length ys it.0 it.1 in
        omega (arith, rest, long)

    -- and fewer where one of the items is nobody's
    pub fewer : (xs : List ℕ) (ys : List Y) (y : Y) → IsIn y ys → Pairwise (λ a b. a ≢ b) xs → ((x : ℕ) → IsIn x xs → (k : Y) × IsIn k ys × R x k) → ((x : ℕ) → R x y → ⊥) → length xs + 1 ≤ length ys
    fewer xs ys y there apart each none =
        let rest = no_more xs (removed ys y there) apart (λ x h.
        let it = each x h in
        (it.0, in_removed ys y there it.0 it.1 (λ same. none x (subst (R x) same it.2)), it.2)) in
        let long = removed_length ys y there in
        omega (arith, rest, long)
