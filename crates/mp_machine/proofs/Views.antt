-- What a view holds after a change of one part, a cut, and a join.
use Rattle.std.proofs.Common.{◌≡◌, ℕ, zero, suc, [], ◌∷◌, Option, None, Some, Bool, true, false, if◌then◌else◌, ◌<◌, refl, sym, ap, arith}
use Rattle.mp_machine.specs.View.{View, part_in, with_part, only, either_part, joined, whole, ViewAgrees}

module _ {Part : Type 0} where
  pub part_in-with_here : (v : View Part) (n : ℕ) (p q : Part) → part_in v n ≡ Some q → part_in (with_part v n p) n ≡ Some p
  part_in-with_here [] n p q e = absurd (cc)
  part_in-with_here (x ∷ v) zero p q e = refl
  part_in-with_here (x ∷ v) (suc n) p q e = part_in-with_here v n p q e

  pub part_in-with_else : (v : View Part) (n k : ℕ) (p : Part) → ¬ (k ≡ n) → part_in (with_part v n p) k ≡ part_in v k
  part_in-with_else [] n k p d = refl
  part_in-with_else (x ∷ v) zero zero p d = absurd (d refl)
  part_in-with_else (x ∷ v) zero (suc k) p d = refl
  part_in-with_else (x ∷ v) (suc n) zero p d = refl
  part_in-with_else (x ∷ v) (suc n) (suc k) p d = part_in-with_else v n k p (λ e. d (ap suc e))

  pub with_part-same : (v : View Part) (n : ℕ) (p : Part) → part_in v n ≡ Some p → with_part v n p ≡ v
  with_part-same [] n p e = refl
  with_part-same (x ∷ v) zero p e = ap (λ y. y ∷ v) (sym e)
  with_part-same (x ∷ v) (suc n) p e = ap (λ y. x ∷ y) (with_part-same v n p e)

  pub part_in-only : (test : ℕ → Bool) (v : View Part) (n : ℕ) → part_in (only test v) n ≡ (if test n then part_in v n else None)
  part_in-only test [] n = nothing_else (test n)
    where
      nothing_else : (b : Bool) → ◌≡◌ {A = Option Part} None (if b then None else None)
      nothing_else true = refl
      nothing_else false = refl
  part_in-only test (x ∷ v) zero = refl
  part_in-only test (x ∷ v) (suc n) = part_in-only (λ k. test (suc k)) v n

  pub part_in-joined : (v w : View Part) (n : ℕ) → part_in (joined v w) n ≡ either_part (part_in v n) (part_in w n)
  part_in-joined [] w n = refl
  part_in-joined (x ∷ v) [] n = none_else (part_in (x ∷ v) n)
    where
      none_else : (o : Option Part) → o ≡ either_part o None
      none_else (Some p) = refl
      none_else None = refl
  part_in-joined (x ∷ v) (y ∷ w) zero = refl
  part_in-joined (x ∷ v) (y ∷ w) (suc n) = part_in-joined v w n

  pub part_in-whole : (part : ℕ → Part) (count n : ℕ) → n < count → part_in (whole part count) n ≡ Some (part n)
  part_in-whole part zero n h = absurd (omega arith)
  part_in-whole part (suc count) zero h = refl
  part_in-whole part (suc count) (suc n) h = part_in-whole (λ k. part (suc k)) count n (omega arith)

  pub Agrees-whole : (part : ℕ → Part) (count : ℕ) → ViewAgrees part (whole part count)
  Agrees-whole part zero n p e = absurd (cc)
  Agrees-whole part (suc count) zero p e = cc
  Agrees-whole part (suc count) (suc n) p e = Agrees-whole (λ k. part (suc k)) count n p e
