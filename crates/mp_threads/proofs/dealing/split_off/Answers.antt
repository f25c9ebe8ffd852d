-- The sessions of a script's statements are at most 64, so those of the schedule are.
use Rattle.std.proofs.Common.{sym, subst}
use Rattle.mp_schedule.specs.Schedules.{HasSessions}
use Rattle.mp_threads.proofs.DealtOut.{sessions_low}
use Rattle.mp_threads.proofs.dealing.split_off.Goals as goal

pub returns-clause-sessions : goal.returns-clause-sessions
returns-clause-sessions c =
    let script = c.args.script.now in
    subst HasSessions (sym c.in_ok-schedule.ensures)
    (c.law_schedule_sessions.ensures.on c.args.number script.lines.items script.sessions.items (sessions_low script c.requires.spelled))
