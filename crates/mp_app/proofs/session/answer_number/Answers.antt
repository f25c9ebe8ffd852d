-- What the run of the number's script answered is said; where there was no memory for the script, the disks are left alone.
use Rattle.std.proofs.Common.{Some}
use Rattle.mp_app.proofs.Reading.{says_of_script, says_no_memory}
use Rattle.mp_app.proofs.session.answer_number.Goals as goal

pub returns-in-Ok-clause-says : goal.returns-in-Ok-clause-says
returns-in-Ok-clause-says g c = λ source.
    says_of_script g.D.Disk c.args.mode source (Some c.args.number) c.in-Ok.script c.args.disks.now c.answer_script.new.disks _ _ c.in-Ok.ensures.made c.answer_script.ensures.says

pub returns-in-Err-clause-says : goal.returns-in-Err-clause-says
returns-in-Err-clause-says g c = λ source. says_no_memory g.D.Disk c.args.mode source (Some c.args.number) c.args.disks.now c.no_memory.result c.no_memory.ensures
