use Rattle.mp_verdict.proofs.Telling.{tells_of}
use Rattle.mp_verdict.proofs.told.law_tells.Goals as goal

pub returns : goal.returns
returns c = λ script work opening o w down entries downs run spelled f told. tells_of script spelled work opening o w down entries downs f run told
