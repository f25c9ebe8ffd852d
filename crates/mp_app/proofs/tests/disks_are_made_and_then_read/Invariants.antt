-- Eight logs stand.
use Rattle.std.proofs.Common.{◌≡◌, length}
use Rattle.mp_app.proofs.tests.disks_are_made_and_then_read.Given as goal

abbrev pub invariant-loop-command : goal.invariant-loop-command
invariant-loop-command g l = length l.disks.logs.items ≡ 8
