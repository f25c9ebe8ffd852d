-- The disk at fault is named.
use Rattle.mp_app.proofs.Refused.{init_failed}
use Rattle.mp_app.proofs.plain.answer_init.Goals as goal

pub returns-in-Err-clause-says : goal.returns-in-Err-clause-says
returns-in-Err-clause-says g c = init_failed g.D.Disk c.args.disks.now c.init.new.disks c.in-Err.fault c.disk_fault.result c.in-Err.ensures.cause c.disk_fault.ensures
