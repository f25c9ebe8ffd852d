use Rattle.mp_verdict.proofs.Assembly.{step_legal}
use Rattle.mp_verdict.proofs.legal.law_step_legal.Goals as goal

pub returns : goal.returns
returns c = λ script work opening o w down entries downs given transcript spelled f merged order t. step_legal script spelled work opening o w down entries downs f given merged order transcript t
