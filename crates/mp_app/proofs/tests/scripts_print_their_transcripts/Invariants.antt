-- Eight logs stand.
use Rattle.std.proofs.Common.{◌≡◌, length}
use Rattle.mp_app.proofs.tests.scripts_print_their_transcripts.Given as goal

abbrev pub invariant-loop-front : goal.invariant-loop-front
invariant-loop-front g l = length l.disks.logs.items ≡ 8
