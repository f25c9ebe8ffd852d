use Rattle.mp_verdict.proofs.StepTold.{step_told, step_sees_earlier, step_holds_keys}
use Rattle.mp_verdict.proofs.told.law_step_conflicts.Goals as goal

pub returns-clause-told : goal.returns-clause-told
returns-clause-told c = λ script work opening o w down entries downs given transcript spelled f merged order t. step_told script spelled work opening o w down entries downs f given merged order transcript t

pub returns-clause-earlier : goal.returns-clause-earlier
returns-clause-earlier c = λ script work opening o w down entries downs given transcript spelled f merged order t. step_sees_earlier script spelled work opening o w down entries downs f given merged order transcript t

pub returns-clause-held : goal.returns-clause-held
returns-clause-held c = λ script work opening o w down entries downs given transcript spelled f merged order t. step_holds_keys script spelled work opening o w down entries downs f given merged order transcript t
