-- Batch by batch.
use Rattle.mp_log.proofs.Given.{fresh_remains, text_given}
use Rattle.mp_log.proofs.laws.law_log_mtrs.Goals as goal

pub returns-clause-fresh : goal.returns-clause-fresh
returns-clause-fresh c = fresh_remains

pub returns-clause-text : goal.returns-clause-text
returns-clause-text c = text_given
