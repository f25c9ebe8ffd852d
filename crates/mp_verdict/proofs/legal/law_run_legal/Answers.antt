use Rattle.mp_verdict.proofs.Assembly.{run_legal}
use Rattle.mp_verdict.proofs.legal.law_run_legal.Goals as goal

pub returns : goal.returns
returns c = λ script work opening o w down entries downs transcript spelled f order t. run_legal script spelled work opening o w down entries downs f transcript t order
