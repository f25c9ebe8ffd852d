-- The least head so far.
use Rattle.std.proofs.Common.{◌<◌}
use Rattle.mp_recover.specs.Merging.{IsLeast}
use Rattle.mp_recover.proofs.merging.least.Given as goal

abbrev pub invariant-loop-place : goal.invariant-loop-place
invariant-loop-place l = (l.found < l.place) × (l.found < 8) × IsLeast l.place l.lanes.items l.found
