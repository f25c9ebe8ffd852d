use Rattle.mp_verdict.proofs.ReadsRight.{read_right}
use Rattle.mp_verdict.proofs.told.law_reads_right.Goals as goal

pub returns : goal.returns
returns c = λ script work opening o w down entries downs run answer line spelled f told counted. read_right script spelled work opening o w down entries downs f run told counted answer line
