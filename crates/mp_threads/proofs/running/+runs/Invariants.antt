use Rattle.std.proofs.Common.{◌+◌, ◌*◌, length}
use Rattle.mp_threads.proofs.running.+runs.Given as goal

abbrev pub decreases-run_beside-join_mut+arg2 : goal.decreases-run_beside-join_mut+arg2
decreases-run_beside-join_mut+arg2 g l = 3 * length l.primaries.now + 1

abbrev pub decreases-run_beside : goal.decreases-run_beside
decreases-run_beside g l = 3 * length l.primaries.now + 2

abbrev pub decreases-run_from : goal.decreases-run_from
decreases-run_from g l = 3 * length l.primaries.now
