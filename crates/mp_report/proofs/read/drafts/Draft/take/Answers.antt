-- What the line says was added, where it may stand there.
use Rattle.std.proofs.Common.{◌∙◌, Some, None, ap, sym}
use Rattle.std.specs.Option.{option_map}
use Rattle.mp_report.specs.ReadingLines.{bare_line}
use Rattle.mp_report.specs.Drafts.{draft_said}
use Rattle.mp_report.proofs.LinesTaken.{stand_behind, reads_behind}
use Rattle.mp_report.proofs.read.drafts.Draft.take.Goals as goal

pub returns-in_default-allowed-clause-stand : goal.returns-in_default-allowed-clause-stand
returns-in_default-allowed-clause-stand c =
    stand_behind c.args.self.now.stand c.args.text.now c.in-Some.line None (ap (option_map bare_line) (sym c.in-Some.is) ∙ c.in_ok-line.ensures) (sym c.in_default-allowed.is ∙ c.allowed.ensures)

pub returns-clause-stand : goal.returns-clause-stand
returns-clause-stand c =
    stand_behind c.args.self.now.stand c.args.text.now c.in-Some.line (Some c.in-Some-allowed.next) (ap (option_map bare_line) (sym c.in-Some.is) ∙ c.in_ok-line.ensures) (sym c.in-Some-allowed.is ∙ c.allowed.ensures)

pub returns-clause-reads : goal.returns-clause-reads
returns-clause-reads c took =
    let t = c.args.self.now.transcript in
    let p = c.args.self.now.part in
    reads_behind c.args.self.now.stand c.in-Some-allowed.next c.args.text.now c.in-Some.line t p (draft_said c.add.new.self.transcript c.add.new.self.part)
    (ap (option_map bare_line) (sym c.in-Some.is) ∙ c.in_ok-line.ensures) (sym c.in-Some-allowed.is ∙ c.allowed.ensures) c.in_ok-add.ensures
