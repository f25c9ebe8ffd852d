use Rattle.mp_verdict.proofs.DownsRight.{downs_rise, have_causes, run_stays, step_stays}
use Rattle.mp_verdict.proofs.told.law_downs_right.Goals as goal

pub returns-clause-rise : goal.returns-clause-rise
returns-clause-rise c = λ script work opening o w down entries downs run spelled f told. downs_rise script spelled work opening o w down entries downs f run told

pub returns-clause-causes : goal.returns-clause-causes
returns-clause-causes c = λ script work opening o w down entries downs run spelled f told. have_causes script spelled work opening o w down entries downs f run told

pub returns-clause-run_stays : goal.returns-clause-run_stays
returns-clause-run_stays c = λ script work opening o w down entries downs transcript spelled f t. run_stays script spelled work opening o w down entries downs f transcript t

pub returns-clause-step_stays : goal.returns-clause-step_stays
returns-clause-step_stays c = λ script work opening o w down entries downs given transcript spelled f merged order t. step_stays script spelled work opening o w down entries downs f given merged order transcript t
