use Rattle.std.proofs.Common.{◌≡◌, ◌++◌, map, filter, drop}
use Rattle.mp_script.specs.Entries.{is_declared}
use Rattle.mp_schedule.specs.Schedules.{free_try}
use Rattle.mp_schedule.proofs.schedule.push_statements_of.Given as goal

abbrev pub invariant-loop-line : goal.invariant-loop-line
invariant-loop-line l = l.tries.items ++ map (λ line. free_try line.session) (filter (λ line. is_declared l.sessions line.session) (drop l.line-index l.lines))
    ≡ l.fn.tries.items ++ map (λ line. free_try line.session) (filter (λ line. is_declared l.sessions line.session) l.lines)
