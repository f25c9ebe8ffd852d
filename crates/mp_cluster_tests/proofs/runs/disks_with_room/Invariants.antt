-- As many logs as were made.
use Rattle.std.proofs.Common.{◌≡◌, length}
use Rattle.mp_cluster_tests.proofs.runs.disks_with_room.Given as goal

abbrev pub invariant-loop-before : goal.invariant-loop-before
invariant-loop-before l = length l.logs.items ≡ l.before
