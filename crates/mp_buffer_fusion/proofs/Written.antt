-- A buffer is written at its place.
use Rattle.std.proofs.Common.{◌≡◌, ℕ, zero, suc, List, [], ◌∷◌, map, slice_get, slice_set, Option, Some, None, Result, MatchOption, IsOk, IsErr, refl, sym, ap, ◌∙◌, subst}
use Rattle.mp_cells.specs.declared.changes.Change.{Change}
use Rattle.mp_cells.specs.declared.changes.NotApplicable.{NotApplicable}
use Rattle.mp_cells.specs.PageView.{PageView}
use Rattle.mp_cells.specs.Changes.{applied}
use Rattle.mp_buffer_fusion.specs.declared.buffer.Buffer.{Buffer}
use Rattle.mp_buffer_fusion.specs.Buffers.{buffer_of, StandsAt, with_buffer, rewritten_buffer, changed_by, ChangesBuffer}
use Rattle.mp_buffer_fusion.specs.Places.{IsKeptPool}
use Rattle.mp_buffer_fusion.proofs.Buffered.{place_found, change_of, change_keeps, written_at}
use Rattle.mp_buffer_fusion.proofs.Kept.{distinct, kept_mapped}

same_set : (xs : List Buffer) (i : ℕ) (x : Buffer) → slice_get xs i ≡ Some x → slice_set xs i x ≡ xs
same_set [] i x at = refl
same_set (y ∷ xs) zero x at = let one : y ≡ x = cc in ap (λ z. z ∷ xs) (sym one)
same_set (y ∷ xs) (suc i) x at = ap (λ l. y ∷ l) (same_set xs i x at)

module _ (items : List Buffer) (places : List ℕ) (kept : IsKeptPool items places) (k i : ℕ) (b : Buffer) (stands : StandsAt items k i b) where
  -- by a function of the old one
  pub set_is : (f : Buffer → Buffer) (x : Buffer) → x ≡ f b → slice_set items i x ≡ with_buffer items k f
  set_is f x is = ap (slice_set items i) is ∙ written_at f items (distinct items places kept) k i b stands.0 (place_found items k b stands.1).2

  -- by one of the same page
  pub kept_set : (x : Buffer) → x.number ≡ b.number → IsKeptPool (slice_set items i x) places
  kept_set x same =
      let f : Buffer → Buffer = λ c. record x { number = c.number } in
      let is : x ≡ f b = λ j. record x { number = same j } in
      subst (λ l. IsKeptPool l places) (sym (set_is f x is)) (kept_mapped (change_of k f) (change_keeps f (λ _. refl) k) items places kept)

  -- by a change, where it can be applied
  pub changes_buffer : (llsn : ℕ) (change : Change) (x : Buffer) (result : Result (Unit {0}) NotApplicable)
      → MatchOption (applied change b.page) (IsErr result × (x ≡ b)) (λ _. IsOk result × (x ≡ rewritten_buffer (changed_by llsn change b.page) b))
      → ChangesBuffer llsn k change b items (slice_set items i x) result
  changes_buffer llsn change x result told = by_case (applied change b.page) told
    where
      by_case : (o : Option PageView) → MatchOption o (IsErr result × (x ≡ b)) (λ _. IsOk result × (x ≡ rewritten_buffer (changed_by llsn change b.page) b))
          → MatchOption o (IsErr result × (slice_set items i x ≡ items)) (λ _. IsOk result × (slice_set items i x ≡ with_buffer items k (λ c. rewritten_buffer (changed_by llsn change c.page) c)))
      by_case None said = (said.0, ap (slice_set items i) said.1 ∙ same_set items i b stands.0)
      by_case (Some y) said = (said.0, set_is (λ c. rewritten_buffer (changed_by llsn change c.page) c) x said.1)

-- a changed buffer has the same page
pub same_number : (llsn : ℕ) (change : Change) (b x : Buffer) (result : Result (Unit {0}) NotApplicable)
    → MatchOption (applied change b.page) (IsErr result × (x ≡ b)) (λ _. IsOk result × (x ≡ rewritten_buffer (changed_by llsn change b.page) b)) → x.number ≡ b.number
same_number llsn change b x result told = by_case (applied change b.page) told
  where
    by_case : (o : Option PageView) → MatchOption o (IsErr result × (x ≡ b)) (λ _. IsOk result × (x ≡ rewritten_buffer (changed_by llsn change b.page) b)) → x.number ≡ b.number
    by_case None said = ap (λ (y : Buffer). y.number) said.1
    by_case (Some y) said = ap (λ (z : Buffer). z.number) said.1
