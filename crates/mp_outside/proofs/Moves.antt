-- An empty range that waits for a sync may stand anywhere.
use Rattle.std.proofs.Common.{◌≡◌, ℕ, ◌-◌, ◌≤◌, List, ◌++◌, length, take, drop, replicate, sym, ap, ◌∙◌, take-append-drop, arith}
use Rattle.std.proofs.lemmas.List.{replicate-append-replicate, take-replicate, drop-replicate}
use Rattle.mp_outside.specs.MemDisks.{IsMemDisk}
use Rattle.mp_outside.specs.declared.marks.Mark.{Mark}
use Rattle.mp_outside.specs.declared.marks.Mark.TheVariants.{Untouched}

joined : {X : Type 0} (n : ℕ) (xs ys zs : List X) → take n xs ≡ ys → drop n xs ≡ zs → xs ≡ ys ++ zs
joined n xs ys zs front back = rw (← front, ← back) (sym (take-append-drop n xs))

pub moved : (bytes synced : List ℕ) (marks : List Mark) (size synced_size from to at : ℕ) → IsMemDisk bytes synced marks size synced_size from to → from ≡ to → at ≤ length bytes
    → IsMemDisk bytes synced marks size synced_size at at
moved bytes synced marks size synced_size from to at h empty le =
    let same : bytes ≡ synced = joined from bytes (take from synced) (drop from synced) (h.below.0) (rw empty (h.above.0)) ∙ take-append-drop from synced in
    let all : marks ≡ replicate (length bytes) Untouched =
    joined from marks (replicate from Untouched) (replicate (length bytes - to) Untouched) (h.below.1) (rw empty (h.above.1))
    ∙ replicate-append-replicate from (length bytes - to) Untouched ∙ ap (λ n. replicate n Untouched) (omega (arith, h.ends)) in
    record {
      synced_room = h.synced_room;
      marks_room = h.marks_room;
      within = h.within;
      synced_within = h.synced_within;
      ordered = omega arith;
      ends = le;
      below = (ap (take at) same, ap (take at) all ∙ take-replicate at (length bytes) Untouched le);
      above = (ap (drop at) same, ap (drop at) all ∙ drop-replicate at (length bytes) Untouched);
      untouched = h.untouched;
    }
