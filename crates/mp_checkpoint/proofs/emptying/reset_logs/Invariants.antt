-- The logs so far are empty.
use Rattle.mp_checkpoint.specs.Emptying.{EmptiedBelow}
use Rattle.mp_checkpoint.proofs.emptying.reset_logs.Given as goal

abbrev pub invariant-loop-place : goal.invariant-loop-place
invariant-loop-place g l = EmptiedBelow g.D.Disk l.place l.initial.logs.items l.logs.items
