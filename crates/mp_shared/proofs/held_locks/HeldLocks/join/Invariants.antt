use Rattle.std.proofs.Common.{◌≡◌, ◌<◌, ◌≤◌, ℕ, None, slice_index_or}
use Rattle.mp_machine.specs.View.{either_part}
use Rattle.mp_shared.proofs.held_locks.HeldLocks.join.Given as goal

-- the tables below this one are those of both, and the others are as they were
abbrev pub invariant-loop-n : goal.invariant-loop-n
invariant-loop-n l =
    ((k : ℕ) → k < l.n → slice_index_or l.self.tables k None ≡ either_part (slice_index_or l.fn.self.tables k None) (slice_index_or l.fn.other.tables k None))
    × ((k : ℕ) → l.n ≤ k → slice_index_or l.self.tables k None ≡ slice_index_or l.fn.self.tables k None)
    × ((k : ℕ) → l.n ≤ k → slice_index_or l.other.tables k None ≡ slice_index_or l.fn.other.tables k None)
