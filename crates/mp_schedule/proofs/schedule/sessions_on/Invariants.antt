use Rattle.std.proofs.Common.{◌≡◌, ◌++◌, drop}
use Rattle.mp_schedule.specs.Schedules.{sessions_of_primary}
use Rattle.mp_schedule.proofs.schedule.sessions_on.Given as goal

abbrev pub invariant-loop-on : goal.invariant-loop-on
invariant-loop-on l = l.own.items ++ sessions_of_primary l.primary (drop l.on-index l.sessions) ≡ sessions_of_primary l.primary l.sessions
