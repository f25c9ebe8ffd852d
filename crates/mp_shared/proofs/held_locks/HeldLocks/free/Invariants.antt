use Rattle.std.proofs.Common.{◌≡◌, ◌<◌, ◌≤◌, ℕ, None, slice_index_or, length}
use Rattle.mp_core_pages.specs.declared.page_lock.Held.TheVariants.{No}
use Rattle.mp_shared.specs.LockTables.{NotesLocks}
use Rattle.mp_shared.proofs.held_locks.HeldLocks.free.Given as goal

-- the tables below this one are made
abbrev pub invariant-loop-p : goal.invariant-loop-p
invariant-loop-p l = (length l.locks.tables ≡ 9) × ((k : ℕ) → k < l.p → NotesLocks (slice_index_or l.locks.tables k None) (λ _. No)) × ((k : ℕ) → l.p ≤ k → slice_index_or l.locks.tables k None ≡ None)
