-- So many lanes, each as it is before anything was read.
use Rattle.std.proofs.Common.{◌≡◌, ℕ, ◌+◌, Some, length, slice_get}
use Rattle.mp_recover.specs.declared.lanes.Lane.{Lane}
use Rattle.mp_recover.specs.Merging.{fresh_lane}
use Rattle.mp_recover.proofs.merging.new_lanes.Given as goal

abbrev pub invariant-loop-place : goal.invariant-loop-place
invariant-loop-place l = (length l.lanes.items ≡ l.place) × ((place : ℕ) (lane : Lane) → slice_get l.lanes.items place ≡ Some lane → lane ≡ fresh_lane (place + 1))
