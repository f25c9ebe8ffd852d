-- A script that is a number's isn't read.
use Rattle.std.proofs.Common.{rules, ◌≡◌, None}
use Rattle.mp_model.specs.declared.transcripts.Mode.TheVariants as mode
use Rattle.mp_app.specs.declared.commands.SessionCommand.TheVariants.{Step, Run}
use Rattle.mp_app.proofs.session.answer.Goals as goal

pub returns-in-Step-None-clause-unread : goal.returns-in-Step-None-clause-unread
returns-in-Step-None-clause-unread g c = λ none.
    let is : c.args.command.now ≡ Step None = search rules in
    absurd (none mode.Step is)

pub returns-in-Run-None-clause-unread : goal.returns-in-Run-None-clause-unread
returns-in-Run-None-clause-unread g c = λ none.
    let is : c.args.command.now ≡ Run None = search rules in
    absurd (none mode.Run is)
