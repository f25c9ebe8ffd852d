-- The run went on so far.
use Rattle.mp_driver.specs.Driving.{DrivesOn}
use Rattle.mp_driver.proofs.turning.serve.Given as goal

abbrev pub invariant-loop-place : goal.invariant-loop-place
invariant-loop-place g l = DrivesOn g.D.Disk l.initial.members l.members
