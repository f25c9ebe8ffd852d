use Rattle.std.proofs.Common.{◌≡◌, ◌<◌, ◌≤◌, ℕ, None, slice_index_or}
use Rattle.mp_machine.specs.View.{either_part}
use Rattle.mp_shared.proofs.slot_counts.SlotCounts.join.Given as goal

-- the counts below this one are those of both, and the others are as they were
abbrev pub invariant-loop-n : goal.invariant-loop-n
invariant-loop-n l =
    ((k : ℕ) → k < l.n → slice_index_or l.self.used k None ≡ either_part (slice_index_or l.fn.self.used k None) (slice_index_or l.other.used k None))
    × ((k : ℕ) → l.n ≤ k → slice_index_or l.self.used k None ≡ slice_index_or l.fn.self.used k None)
