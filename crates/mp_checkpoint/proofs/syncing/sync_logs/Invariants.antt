-- The logs so far are synced.
use Rattle.mp_checkpoint.specs.Emptying.{SyncedBelow}
use Rattle.mp_checkpoint.proofs.syncing.sync_logs.Given as goal

abbrev pub invariant-loop-place : goal.invariant-loop-place
invariant-loop-place g l = SyncedBelow g.D.Disk l.place l.initial.logs.items l.logs.items
