use Rattle.std.proofs.Common.{Some}
use Rattle.mp_changes.specs.Changing.{changed_text}
use Rattle.mp_changes.proofs.FirstTurns.{none_put_first, nothing_done}
use Rattle.mp_changes.proofs.change_runs.changes_by.Goals as goal

pub returns-in_default : goal.returns-in_default
returns-in_default c = nothing_done c.args.p c.args.key c.args.count c.args.node
    (none_put_first c.args.node c.args.p 4 c.args.key (Some changed_text) c.requires.first)
