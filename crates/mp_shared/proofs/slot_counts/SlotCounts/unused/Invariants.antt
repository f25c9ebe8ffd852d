use Rattle.std.proofs.Common.{◌≡◌, ◌<◌, ◌≤◌, ℕ, Some, None, slice_index_or, length}
use Rattle.mp_shared.proofs.slot_counts.SlotCounts.unused.Given as goal

-- the counts below this one are set
abbrev pub invariant-loop-p : goal.invariant-loop-p
invariant-loop-p l = (length l.counts.used ≡ 9) × ((k : ℕ) → k < l.p → slice_index_or l.counts.used k None ≡ Some 0) × ((k : ℕ) → l.p ≤ k → slice_index_or l.counts.used k None ≡ None)
