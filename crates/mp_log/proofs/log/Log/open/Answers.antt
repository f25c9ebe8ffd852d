-- The text of a log is read without a fault.
use Rattle.mp_log.proofs.ReadAgain.{no_fault}
use Rattle.mp_log.proofs.log.Log.open.Goals as goal

pub returns-in-Err-clause-only : goal.returns-in-Err-clause-only
returns-in-Err-clause-only g c = λ batches place tells log text is_fault.
    no_fault c.args.node batches (g.D.Disk.seen c.args.disk) (g.D.Disk.seen c.open_at_end.new.disk) (g.D.Disk.image c.open_at_end.new.disk) c.in-Err.refusal place log text (c.in-Err.ensures.exact tells) is_fault

pub returns-in-Ok-clause-last : goal.returns-in-Ok-clause-last
returns-in-Ok-clause-last g c = c.in-Ok.ensures.tied
