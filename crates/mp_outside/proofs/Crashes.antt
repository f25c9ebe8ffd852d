-- Where a crash changed only bytes that a write had reached, what is true of a disk's fields stays true.
use Rattle.std.proofs.Common.{◌≡◌, ◌⊎◌, inl, inr, ℕ, ◌+◌, ◌-◌, ◌<◌, ◌≤◌, get_or, List, length, take, drop, replicate, sym, ap, ◌∙◌, length-take, length-drop, arith}
use Rattle.std.proofs.lemmas.List.{get_or-take, get_or-drop, ext_get_or}
use Rattle.std.proofs.lemmas.Bool.{cases_lt}
use Rattle.mp_outside.specs.Marks.{mark_at, left_of}
use Rattle.mp_outside.specs.MemDisks.{IsMemDisk}
use Rattle.mp_outside.specs.declared.marks.Mark.{Mark}
use Rattle.mp_outside.specs.declared.marks.Mark.TheVariants.{Untouched}
use Rattle.mp_outside.proofs.Images.{all_untouched}

same_by : (bytes bytes' synced : List ℕ) (marks : List Mark) (size choice p : ℕ)
    → (p < size → get_or bytes' p 0 ≡ left_of (mark_at marks p) choice (get_or bytes p 0) (get_or synced p 0))
    → (size ≤ p → get_or bytes' p 0 ≡ get_or bytes p 0) → mark_at marks p ≡ Untouched → (p < size) ⊎ (size ≤ p) → get_or bytes' p 0 ≡ get_or bytes p 0
same_by bytes bytes' synced marks size choice p each others is (inl below) = each below ∙ ap (λ m. left_of m choice (get_or bytes p 0) (get_or synced p 0)) is
same_by bytes bytes' synced marks size choice p each others is (inr past) = others past

pub still_disk : (bytes bytes' synced : List ℕ) (marks : List Mark) (size synced_size from to : ℕ) → IsMemDisk bytes synced marks size synced_size from to → length bytes' ≡ length bytes
    → ((p : ℕ) → mark_at marks p ≡ Untouched → get_or bytes' p 0 ≡ get_or bytes p 0) → IsMemDisk bytes' synced marks size synced_size from to
still_disk bytes bytes' synced marks size synced_size from to h long same =
    let low : (p : ℕ) → p < from → mark_at marks p ≡ Untouched =
    λ p lt. sym (get_or-take from marks p Untouched lt) ∙ ap (λ ms. mark_at ms p) (h.below.1) ∙ all_untouched from p in
    let high : (k : ℕ) → mark_at marks (to + k) ≡ Untouched =
    λ k. sym (get_or-drop to marks k Untouched) ∙ ap (λ ms. mark_at ms k) (h.above.1) ∙ all_untouched (length bytes - to) k in
    let front : take from bytes' ≡ take from bytes =
    ext_get_or 0 (take from bytes') (take from bytes) (omega (arith, length-take from bytes', length-take from bytes))
    (λ p lt.
    let below : p < from = omega (arith, length-take from bytes') in
    get_or-take from bytes' p 0 below ∙ same p (low p below) ∙ sym (get_or-take from bytes p 0 below)) in
    let end : drop to bytes' ≡ drop to bytes =
    ext_get_or 0 (drop to bytes') (drop to bytes) (omega (arith, length-drop to bytes', length-drop to bytes))
    (λ k lt. get_or-drop to bytes' k 0 ∙ same (to + k) (high k) ∙ sym (get_or-drop to bytes k 0)) in
    record {
      synced_room = h.synced_room ∙ sym long;
      marks_room = h.marks_room ∙ sym long;
      within = omega (arith, h.within, long);
      synced_within = omega (arith, h.synced_within, long);
      ordered = h.ordered;
      ends = omega (arith, h.ends, long);
      below = (front ∙ h.below.0, h.below.1);
      above = (end ∙ h.above.0, h.above.1 ∙ ap (λ n. replicate (n - to) Untouched) (sym long));
      untouched = λ p lt is. get_or-take size bytes' p 0 lt ∙ same p is ∙ sym (get_or-take size bytes p 0 lt) ∙ h.untouched p lt is;
    }

pub damaged_still : (bytes bytes' synced kept : List ℕ) (marks : List Mark) (size synced_size from to choice : ℕ) → IsMemDisk bytes synced marks size synced_size from to → length bytes' ≡ length bytes
    → ((p : ℕ) → p < size → get_or bytes' p 0 ≡ left_of (mark_at marks p) choice (get_or bytes p 0) (get_or kept p 0))
    → ((p : ℕ) → size ≤ p → get_or bytes' p 0 ≡ get_or bytes p 0) → IsMemDisk bytes' synced marks size synced_size from to
damaged_still bytes bytes' synced kept marks size synced_size from to choice h long each others =
    still_disk bytes bytes' synced marks size synced_size from to h long (λ p is. same_by bytes bytes' kept marks size choice p (each p) (others p) is (cases_lt p size))
