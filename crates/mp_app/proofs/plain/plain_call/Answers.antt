-- A front of the output's text was written; and what is said of the disks at a status is so.
use Rattle.std.proofs.Common.{◌∙◌, sym, subst}
use Rattle.mp_app.specs.declared.commands.Command.TheVariants.{Plain}
use Rattle.mp_app.specs.Calls.{read_of}
use Rattle.mp_app.specs.Outcomes.{LeavesDisks}
use Rattle.mp_app.specs.Printed.{text_of}
use Rattle.mp_app.proofs.SaidByCommands.{never_sink, made_said, recovered_said, kept_said, done_no_sink, leaves_no_sink}
use Rattle.mp_app.proofs.plain.plain_call.Goals as goal

pub print-requires : goal.print-requires
print-requires g c = never_sink g.D.Disk (Plain c.args.command.now) (read_of g.S.Source c.args.source.now c.args.source.now) c.args.disks.now c.answer-output.new.disks _ _
    (c.answer-output.ensures.says (read_of g.S.Source c.args.source.now c.args.source.now))

pub returns-clause-cut : goal.returns-clause-cut
returns-clause-cut g c = λ is. record {
  status = c.answer-output.result.status;
  text = text_of c.answer-output.result.printed;
  said = c.answer-output.ensures.says (read_of g.S.Source c.args.source.now c.args.source.now);
  written = c.print.ensures.cut is;
}

pub returns-clause-ready : goal.returns-clause-ready
returns-clause-ready g c = λ done init.
    made_said g.D.Disk c.args.command.now (read_of g.S.Source c.args.source.now c.args.source.now) c.args.disks.now c.answer-output.new.disks _ _
    (c.answer-output.ensures.says (read_of g.S.Source c.args.source.now c.args.source.now)) init (sym (c.print.ensures.written (done_no_sink c.print.result done)).0 ∙ done)

pub returns-clause-recovered : goal.returns-clause-recovered
returns-clause-recovered g c = λ done recover.
    recovered_said g.D.Disk c.args.command.now (read_of g.S.Source c.args.source.now c.args.source.now) c.args.disks.now c.answer-output.new.disks _ _
    (c.answer-output.ensures.says (read_of g.S.Source c.args.source.now c.args.source.now)) recover (sym (c.print.ensures.written (done_no_sink c.print.result done)).0 ∙ done)

pub returns-clause-refused : goal.returns-clause-refused
returns-clause-refused g c = λ refused.
    kept_said g.D.Disk c.args.command.now (read_of g.S.Source c.args.source.now c.args.source.now) c.args.disks.now c.answer-output.new.disks _ _
    (c.answer-output.ensures.says (read_of g.S.Source c.args.source.now c.args.source.now)) c.answer-output.ensures.untouched (subst LeavesDisks (c.print.ensures.written (leaves_no_sink c.print.result refused)).0 refused)
