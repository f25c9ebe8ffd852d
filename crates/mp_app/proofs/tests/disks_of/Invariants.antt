-- As many logs as were made.
use Rattle.std.proofs.Common.{◌≡◌, length}
use Rattle.mp_app.proofs.tests.disks_of.Given as goal

abbrev pub invariant-loop-before : goal.invariant-loop-before
invariant-loop-before l = length l.logs.items ≡ l.before
