use Rattle.mp_buffer_fusion.proofs.Recorded.{has_recorded, agrees_recorded}
use Rattle.mp_buffer_fusion.proofs.laws.law_recorded.Goals as goal

pub returns-clause-pages : goal.returns-clause-pages
returns-clause-pages c = has_recorded

pub returns-clause-agrees : goal.returns-clause-agrees
returns-clause-agrees c = agrees_recorded
