-- What recovery made, or was refused for, is said.
use Rattle.mp_app.proofs.Refused.{recover_done, recover_refused}
use Rattle.mp_app.proofs.plain.answer_recover.Goals as goal

pub returns-in-Ok-clause-says : goal.returns-in-Ok-clause-says
returns-in-Ok-clause-says g c =
    recover_done g.D.Disk c.args.disks.now c.recover.new.disks c.in-Ok.made c.recovered.result c.in-Ok.ensures.finds c.in-Ok.ensures.rows c.in-Ok.ensures.recovered c.recovered.ensures

pub returns-in-Err-clause-says : goal.returns-in-Err-clause-says
returns-in-Err-clause-says g c =
    recover_refused g.D.Disk c.args.disks.now c.recover.new.disks c.in-Err.refusal c.recover_refusal.result c.in-Err.ensures.finds c.in-Err.ensures.untouched c.in-Err.ensures.cause c.recover_refusal.ensures
