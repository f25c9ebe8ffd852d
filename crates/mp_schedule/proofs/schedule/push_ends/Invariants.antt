use Rattle.std.proofs.Common.{◌≡◌, ◌++◌, ◌-◌, ◌≤◌, map, filter}
use Rattle.mp_script.specs.Entries.{is_declared}
use Rattle.mp_script.specs.InTheirPart.{count_from}
use Rattle.mp_schedule.specs.Schedules.{free_try}
use Rattle.mp_schedule.proofs.schedule.push_ends.Given as goal

abbrev pub invariant-loop-session : goal.invariant-loop-session
invariant-loop-session l = record {
  within : l.session ≤ 65;
  pushed : l.tries.items ++ map free_try (filter (is_declared l.sessions) (count_from l.session (65 - l.session))) ≡ l.fn.tries.items ++ map free_try (filter (is_declared l.sessions) (count_from 1 64));
}
