-- A front of the output's text was written; and what refuses a run leaves the disks.
use Rattle.std.proofs.Common.{subst}
use Rattle.mp_app.specs.declared.commands.Command.TheVariants.{Session}
use Rattle.mp_app.specs.Calls.{read_of}
use Rattle.mp_app.specs.Outcomes.{LeavesDisks}
use Rattle.mp_app.specs.Printed.{text_of}
use Rattle.mp_app.proofs.SaidByCommands.{never_sink, run_kept, leaves_no_sink}
use Rattle.mp_app.proofs.session.session_call.Goals as goal

pub print-requires : goal.print-requires
print-requires g c = never_sink g.D.Disk (Session c.args.command.now) (read_of g.S.Source c.args.source.now c.answer-output.new.source) c.args.disks.now c.answer-output.new.disks _ _ c.answer-output.ensures.says

pub returns-clause-cut : goal.returns-clause-cut
returns-clause-cut g c = λ is. record {
  status = c.answer-output.result.status;
  text = text_of c.answer-output.result.printed;
  said = c.answer-output.ensures.says;
  written = c.print.ensures.cut is;
}

pub returns-clause-refused : goal.returns-clause-refused
returns-clause-refused g c = λ refused.
    run_kept g.D.Disk c.args.command.now (read_of g.S.Source c.args.source.now c.answer-output.new.source) c.args.disks.now c.answer-output.new.disks _ _ c.answer-output.ensures.says
    (subst LeavesDisks (c.print.ensures.written (leaves_no_sink c.print.result refused)).0 refused)
