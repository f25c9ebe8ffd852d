use Rattle.std.proofs.Common.{◌≡◌, ◌<◌, ℕ, false, slice_index_or}
use Rattle.std.specs.Mem.Slots.{slots_filled, slots_len}
use Rattle.std.specs.Mem.Slots.Ownership.{Filled}
use Rattle.mp_shared.proofs.frames.Frames.drop.Given as goal

-- the pages below this one are taken out
abbrev pub invariant-loop-i : goal.invariant-loop-i
invariant-loop-i l = (l.i-end ≡ slots_len l.closed.slots) × Filled (slots_filled l.closed.slots) l.i (slots_len l.closed.slots) × ((k : ℕ) → k < l.i → slice_index_or (slots_filled l.closed.slots) k false ≡ false)
