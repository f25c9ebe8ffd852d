-- The words name the command that is called, and what it says is said; without one the disks are left alone.
use Rattle.std.proofs.Common.{◌∙◌, map, string_bytes, sym, subst}
use Rattle.mp_files.proofs.Nines.{KeptDisk-refl, KeptNine-refl, StillNine-refl}
use Rattle.mp_outside.specs.Sources.{TakesUpTo}
use Rattle.mp_app.specs.declared.commands.Command.TheVariants.{Session, Plain}
use Rattle.mp_app.specs.declared.commands.PlainCommand.{PlainCommand}
use Rattle.mp_app.specs.declared.commands.SessionCommand.{SessionCommand}
use Rattle.mp_app.specs.declared.commands.PlainCommand.TheVariants.{Init, Recover}
use Rattle.mp_app.specs.Commands.{Names}
use Rattle.mp_app.specs.Calls.{read_of}
use Rattle.mp_app.specs.Printed.{text_of}
use Rattle.mp_app.proofs.NamedOnce.{plain_once, session_not_plain}
use Rattle.mp_app.proofs.Reading.{nothing_taken}
use Rattle.mp_app.proofs.SaidByCommands.{front_said, whole_said, refusal_said, refusal_not_done, done_no_sink}
use Rattle.mp_app.proofs.top.call.Goals as goal

pub returns-in-Ok-Session-clause-written : goal.returns-in-Ok-Session-clause-written
returns-in-Ok-Session-clause-written g c = λ no_sink.
    whole_said g.D.Disk (map string_bytes c.args.words.now) (read_of g.S.Source c.args.source.now c.session_call.new.source) c.args.disks.now c.session_call.new.disks (Session c.in-Ok-Session.command) _ _ _
    (rw c.in-Ok-Session.field-0-is at c.in-Ok-Session.ensures) (c.session_call.ensures.written no_sink)

pub returns-in-Ok-Plain-clause-written : goal.returns-in-Ok-Plain-clause-written
returns-in-Ok-Plain-clause-written g c = λ no_sink.
    whole_said g.D.Disk (map string_bytes c.args.words.now) (read_of g.S.Source c.args.source.now c.plain_call.new.source) c.args.disks.now c.plain_call.new.disks (Plain c.in-Ok-Plain.command) _ _ _
    (rw c.in-Ok-Plain.field-0-is at c.in-Ok-Plain.ensures) (c.plain_call.ensures.written no_sink)

pub returns-in-Ok-Session-clause-cut : goal.returns-in-Ok-Session-clause-cut
returns-in-Ok-Session-clause-cut g c = λ is.
    front_said g.D.Disk (map string_bytes c.args.words.now) (read_of g.S.Source c.args.source.now c.session_call.new.source) c.args.disks.now c.session_call.new.disks (Session c.in-Ok-Session.command) _ _
    (rw c.in-Ok-Session.field-0-is at c.in-Ok-Session.ensures) (c.session_call.ensures.cut is)

pub returns-in-Ok-Plain-clause-cut : goal.returns-in-Ok-Plain-clause-cut
returns-in-Ok-Plain-clause-cut g c = λ is.
    front_said g.D.Disk (map string_bytes c.args.words.now) (read_of g.S.Source c.args.source.now c.plain_call.new.source) c.args.disks.now c.plain_call.new.disks (Plain c.in-Ok-Plain.command) _ _
    (rw c.in-Ok-Plain.field-0-is at c.in-Ok-Plain.ensures) (c.plain_call.ensures.cut is)

pub returns-in-Err-clause-cut : goal.returns-in-Err-clause-cut
returns-in-Err-clause-cut g c = λ is. record {
  status = c.words_refusal.result.status;
  text = text_of c.words_refusal.result.printed;
  said = refusal_said g.D.Disk (map string_bytes c.args.words.now) (read_of g.S.Source c.args.source.now c.args.source.now) c.args.disks.now c.in-Err.refusal c.words_refusal.result c.in-Err.ensures c.words_refusal.ensures;
  written = c.print.ensures.cut is;
}

-- the source is read by a run without a number alone
pub returns-in-Ok-Session-clause-unread : goal.returns-in-Ok-Session-clause-unread
returns-in-Ok-Session-clause-unread g c = λ no_run.
    let named = rw c.in-Ok-Session.field-0-is at c.in-Ok-Session.ensures in
    c.session_call.ensures.unread (λ in_mode is. no_run in_mode (subst (λ (k : SessionCommand). Names (map string_bytes c.args.words.now) (Session k)) is named))

pub returns-in-Ok-Plain-clause-bound : goal.returns-in-Ok-Plain-clause-bound
returns-in-Ok-Plain-clause-bound g c =
    subst (λ s. TakesUpTo 1048577 (g.S.Source.left c.args.source.now) (g.S.Source.left s)) (sym c.plain_call.ensures.unread) (nothing_taken (g.S.Source.left c.args.source.now))

-- and the disks are touched by the others alone
pub returns-in-Err-clause-nine : goal.returns-in-Err-clause-nine
returns-in-Err-clause-nine g c = StillNine-refl g.D.Disk c.args.disks.now

pub returns-in-Ok-Session-clause-ready : goal.returns-in-Ok-Session-clause-ready
returns-in-Ok-Session-clause-ready g c = λ done init. session_not_plain (map string_bytes c.args.words.now) c.in-Ok-Session.command Init (rw c.in-Ok-Session.field-0-is at c.in-Ok-Session.ensures) init

pub returns-in-Ok-Plain-clause-ready : goal.returns-in-Ok-Plain-clause-ready
returns-in-Ok-Plain-clause-ready g c = λ done init.
    c.plain_call.ensures.ready done (plain_once (map string_bytes c.args.words.now) c.in-Ok-Plain.command Init (rw c.in-Ok-Plain.field-0-is at c.in-Ok-Plain.ensures) init)

pub returns-in-Err-clause-ready : goal.returns-in-Err-clause-ready
returns-in-Err-clause-ready g c = λ done init.
    refusal_not_done c.in-Err.refusal c.words_refusal.result c.words_refusal.ensures (sym (c.print.ensures.written (done_no_sink c.print.result done)).0 ∙ done)

pub returns-in-Ok-Session-clause-recovered : goal.returns-in-Ok-Session-clause-recovered
returns-in-Ok-Session-clause-recovered g c = λ done recover. session_not_plain (map string_bytes c.args.words.now) c.in-Ok-Session.command Recover (rw c.in-Ok-Session.field-0-is at c.in-Ok-Session.ensures) recover

pub returns-in-Ok-Plain-clause-recovered : goal.returns-in-Ok-Plain-clause-recovered
returns-in-Ok-Plain-clause-recovered g c = λ done recover.
    c.plain_call.ensures.recovered done (plain_once (map string_bytes c.args.words.now) c.in-Ok-Plain.command Recover (rw c.in-Ok-Plain.field-0-is at c.in-Ok-Plain.ensures) recover)

pub returns-in-Err-clause-recovered : goal.returns-in-Err-clause-recovered
returns-in-Err-clause-recovered g c = λ done recover.
    refusal_not_done c.in-Err.refusal c.words_refusal.result c.words_refusal.ensures (sym (c.print.ensures.written (done_no_sink c.print.result done)).0 ∙ done)

pub returns-in-Err-clause-refused : goal.returns-in-Err-clause-refused
returns-in-Err-clause-refused g c = λ refused. KeptNine-refl g.D.Disk c.args.disks.now

pub returns-in-Ok-Session-clause-untouched : goal.returns-in-Ok-Session-clause-untouched
returns-in-Ok-Session-clause-untouched g c = λ not_init not_recover no_run.
    absurd (no_run c.in-Ok-Session.command (rw c.in-Ok-Session.field-0-is at c.in-Ok-Session.ensures))

pub returns-in-Ok-Plain-clause-untouched : goal.returns-in-Ok-Plain-clause-untouched
returns-in-Ok-Plain-clause-untouched g c = λ not_init not_recover no_run.
    let named = rw c.in-Ok-Plain.field-0-is at c.in-Ok-Plain.ensures in
    c.plain_call.ensures.untouched (λ is. not_init (subst (λ (k : PlainCommand). Names (map string_bytes c.args.words.now) (Plain k)) is named))
    (λ is. not_recover (subst (λ (k : PlainCommand). Names (map string_bytes c.args.words.now) (Plain k)) is named))

pub returns-in-Err-clause-untouched : goal.returns-in-Err-clause-untouched
returns-in-Err-clause-untouched g c = λ not_init not_recover no_run. KeptNine-refl g.D.Disk c.args.disks.now

pub returns-in-Ok-Session-clause-store : goal.returns-in-Ok-Session-clause-store
returns-in-Ok-Session-clause-store g c = λ not_init not_recover. c.session_call.ensures.store

pub returns-in-Ok-Plain-clause-store : goal.returns-in-Ok-Plain-clause-store
returns-in-Ok-Plain-clause-store g c = λ not_init not_recover.
    let named = rw c.in-Ok-Plain.field-0-is at c.in-Ok-Plain.ensures in
    (c.plain_call.ensures.untouched (λ is. not_init (subst (λ (k : PlainCommand). Names (map string_bytes c.args.words.now) (Plain k)) is named))
    (λ is. not_recover (subst (λ (k : PlainCommand). Names (map string_bytes c.args.words.now) (Plain k)) is named))).store

pub returns-in-Err-clause-store : goal.returns-in-Err-clause-store
returns-in-Err-clause-store g c = λ not_init not_recover. KeptDisk-refl g.D.Disk c.args.disks.now.store
