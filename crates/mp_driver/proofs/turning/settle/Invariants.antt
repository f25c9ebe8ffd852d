-- The run went on so far, and the primaries before this place are through.
use Rattle.std.proofs.Common.{ℕ, ◌<◌}
use Rattle.mp_driver.specs.Driving.{DrivesOn, IsThroughAt}
use Rattle.mp_driver.proofs.turning.settle.Given as goal

abbrev pub invariant-loop-place : goal.invariant-loop-place
invariant-loop-place g l = record {
  drives : DrivesOn g.D.Disk l.initial.members l.members;
  through : (place : ℕ) → place < l.place → IsThroughAt l.members place;
}
