-- Batch by batch.
use Rattle.mp_log.proofs.ReadWhole.{same_fault, text_read}
use Rattle.mp_log.proofs.laws.law_log_read.Goals as goal

pub returns-clause-same : goal.returns-clause-same
returns-clause-same c = same_fault

pub returns-clause-text : goal.returns-clause-text
returns-clause-text c = text_read
