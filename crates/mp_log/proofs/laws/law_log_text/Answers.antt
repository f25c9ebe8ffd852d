-- Batch by batch.
use Rattle.mp_log.proofs.OneText.{one_text}
use Rattle.mp_log.proofs.laws.law_log_text.Goals as goal

pub returns : goal.returns
returns c = one_text
