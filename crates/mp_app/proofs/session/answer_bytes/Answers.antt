-- A script is answered; where the bytes are refused, the disks are left alone.
use Rattle.mp_app.proofs.Bytes.{spelled_by, says_script, says_refused}
use Rattle.mp_app.proofs.session.answer_bytes.Goals as goal

pub answer_script-requires-clause-spelled : goal.answer_script-requires-clause-spelled
answer_script-requires-clause-spelled g c κs lives = spelled_by c.args.bytes.now c.in-Ok.script c.in-Ok.ensures.spelled

pub returns-in-Ok-clause-says : goal.returns-in-Ok-clause-says
returns-in-Ok-clause-says g c = says_script g.D.Disk c.args.mode c.args.bytes.now c.in-Ok.script c.args.disks.now c.answer_script.new.disks _ _ c.in-Ok.ensures.spelled c.answer_script.ensures.says

pub returns-in-Err-clause-says : goal.returns-in-Err-clause-says
returns-in-Err-clause-says g c = says_refused g.D.Disk c.args.mode c.args.bytes.now c.args.disks.now c.in-Err.output c.in-Err.ensures.refused
