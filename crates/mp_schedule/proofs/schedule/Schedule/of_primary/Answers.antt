-- The tries are those of the primary's sessions, and none waits.
use Rattle.std.proofs.Common.{◌≡◌, ◌∙◌, ap, filter}
use Rattle.mp_script.specs.Entries.{is_declared}
use Rattle.mp_schedule.specs.Schedules.{sessions_of_primary}
use Rattle.mp_schedule.proofs.Ends.{primary_pushed, first_unmarked}
use Rattle.mp_schedule.proofs.schedule.Schedule.of_primary.Goals as goal

pub fresh-requires : goal.fresh-requires
fresh-requires c =
    let own : c.in_ok-own.own.items ≡ sessions_of_primary c.args.primary c.args.script.now.sessions.items = c.in_ok-own.ensures ∙ ap (sessions_of_primary c.args.primary) c.as_slice.ensures in
    first_unmarked (filter (λ line. is_declared (sessions_of_primary c.args.primary c.args.script.now.sessions.items) line.session) c.args.script.now.lines.items)
    (sessions_of_primary c.args.primary c.args.script.now.sessions.items) c.push_ends.new.tries.items
    (primary_pushed c.args.primary c.as_slice-2.result.now c.args.script.now.lines.items c.as_slice-3.result.now c.as_slice-4.result.now c.args.script.now.sessions.items
    c.new-tries.result.items c.push_statements_of.new.tries.items c.push_ends.new.tries.items c.new-tries.ensures.items c.as_slice-2.ensures
    (c.as_slice-3.ensures.value ∙ own) (c.as_slice-4.ensures.value ∙ own) c.in_ok-push_statements_of.ensures c.in_ok-push_ends.ensures)

pub returns : goal.returns
returns c =
    let own : c.in_ok-own.own.items ≡ sessions_of_primary c.args.primary c.args.script.now.sessions.items = c.in_ok-own.ensures ∙ ap (sessions_of_primary c.args.primary) c.as_slice.ensures in
    c.fresh.ensures
    ∙ primary_pushed c.args.primary c.as_slice-2.result.now c.args.script.now.lines.items c.as_slice-3.result.now c.as_slice-4.result.now c.args.script.now.sessions.items
    c.new-tries.result.items c.push_statements_of.new.tries.items c.push_ends.new.tries.items c.new-tries.ensures.items c.as_slice-2.ensures
    (c.as_slice-3.ensures.value ∙ own) (c.as_slice-4.ensures.value ∙ own) c.in_ok-push_statements_of.ensures c.in_ok-push_ends.ensures
