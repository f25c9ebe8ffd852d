-- By what is appended.
use Rattle.mp_log.proofs.KeptLog.{kept_log}
use Rattle.mp_log.proofs.laws.law_kept_log.Goals as goal

pub returns : goal.returns
returns g c = λ batches pending tail disk. kept_log batches pending tail (g.D.Disk.seen disk) (g.D.Disk.image disk)
