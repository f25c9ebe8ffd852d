-- The bytes that were read are those that are answered; where none were, the disks are left alone.
use Rattle.mp_app.specs.Calls.{read_of}
use Rattle.mp_app.proofs.Reading.{says_from_bytes}
use Rattle.mp_app.proofs.SaidByCommands.{says_source_failed}
use Rattle.mp_app.proofs.session.answer_source.Goals as goal

pub returns-in-Ok-clause-says : goal.returns-in-Ok-clause-says
returns-in-Ok-clause-says g c =
    says_from_bytes g.D.Disk c.args.mode _ c.in-Ok.text.items c.args.disks.now c.answer_bytes.new.disks c.answer_bytes.result.status _ c.in-Ok.ensures.bytes (rw (← c.as_slice.ensures) c.answer_bytes.ensures.says)

pub returns-in-Err-Failed-clause-says : goal.returns-in-Err-Failed-clause-says
returns-in-Err-Failed-clause-says g c = says_source_failed g.D.Disk c.args.mode (read_of g.S.Source c.args.source.now c.read_all.new.source) c.args.disks.now c.source_fault.result (rw c.in-Err-Failed.field-0-is at c.in-Err-Failed.ensures.cause) c.source_fault.ensures
