use Rattle.std.proofs.Common.{length}
use Rattle.mp_cluster.proofs.TriesOnPrimaries.{same_tries_on}
use Rattle.mp_cluster.proofs.step.drive_script.Goals as goal

pub drive-requires-clause-on : goal.drive-requires-clause-on
drive-requires-clause-on g c =
    same_tries_on c.args.script.now c.requires.spelled c.as_slice-sessions.result.now c.in_ok-schedule.schedule.tries.items (length c.args.members.now.primaries.items) c.as_slice-sessions.ensures c.in_ok-schedule.ensures c.requires.primaries
