use Rattle.std.proofs.Common.{◌∙◌}
use Rattle.mp_schedule.proofs.Ends.{both_pushed, first_unmarked}
use Rattle.mp_schedule.proofs.schedule.Schedule.new.Goals as goal

pub fresh-requires : goal.fresh-requires
fresh-requires c = first_unmarked c.args.script.now.lines.items c.args.script.now.sessions.items c.push_ends.new.tries.items
    (both_pushed c.as_slice.result.now c.args.script.now.lines.items c.as_slice-2.result.now c.args.script.now.sessions.items c.new-tries.result.items c.push_statements.new.tries.items c.push_ends.new.tries.items
    c.new-tries.ensures.items c.as_slice.ensures c.as_slice-2.ensures c.in_ok-push_statements.ensures c.in_ok-push_ends.ensures)

pub returns : goal.returns
returns c =
    c.fresh.ensures
    ∙ both_pushed c.as_slice.result.now c.args.script.now.lines.items c.as_slice-2.result.now c.args.script.now.sessions.items c.new-tries.result.items c.push_statements.new.tries.items c.push_ends.new.tries.items
    c.new-tries.ensures.items c.as_slice.ensures c.as_slice-2.ensures c.in_ok-push_statements.ensures c.in_ok-push_ends.ensures
