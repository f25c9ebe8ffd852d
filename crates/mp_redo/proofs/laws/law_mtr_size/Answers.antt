-- Record by record.
use Rattle.mp_redo.proofs.Puts.{mtr_most}
use Rattle.mp_redo.proofs.laws.law_mtr_size.Goals as goal

pub returns : goal.returns
returns c = mtr_most
