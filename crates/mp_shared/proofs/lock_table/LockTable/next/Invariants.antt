use Rattle.std.proofs.Common.{◌≡◌, ◌<◌, ◌≤◌, ◌*◌, ℕ, slice_index_or}
use Rattle.mp_core_pages.specs.declared.page_lock.Held.TheVariants.{No}
use Rattle.mp_shared.proofs.lock_table.LockTable.next.Given as goal

-- none of those in the groups before this one is held
abbrev pub invariant-loop-group : goal.invariant-loop-group
invariant-loop-group l = (j : ℕ) → l.fn.from ≤ j → j < l.group * 64 → slice_index_or l.self j No ≡ No
