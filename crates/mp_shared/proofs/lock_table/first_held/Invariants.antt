use Rattle.std.proofs.Common.{◌≡◌, ◌<◌, ◌≤◌, ℕ, slice_index_or}
use Rattle.mp_core_pages.specs.declared.page_lock.Held.TheVariants.{No}
use Rattle.mp_shared.proofs.lock_table.first_held.Given as goal

-- none of those before this place is held
abbrev pub invariant-loop-i : goal.invariant-loop-i
invariant-loop-i l = (l.fn.from ≤ l.i) × ((j : ℕ) → l.fn.from ≤ j → j < l.i → slice_index_or l.held j No ≡ No)
