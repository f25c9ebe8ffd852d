use Rattle.mp_verdict.proofs.StepRules.{step_begins, step_answered, step_numbered, step_counts, step_views}
use Rattle.mp_verdict.proofs.numbers.law_step_rules.Goals as goal

pub returns-clause-begins : goal.returns-clause-begins
returns-clause-begins c = λ script work opening o w down entries downs given transcript spelled f merged order t. step_begins script spelled work opening o w down entries downs f given merged order transcript t

pub returns-clause-answered : goal.returns-clause-answered
returns-clause-answered c = λ script work opening o w down entries downs given transcript spelled f merged order t. step_answered script spelled work opening o w down entries downs f given merged order transcript t

pub returns-clause-numbered : goal.returns-clause-numbered
returns-clause-numbered c = λ script work opening o w down entries downs given transcript spelled f merged order t. step_numbered script spelled work opening o w down entries downs f given merged order transcript t

pub returns-clause-counted : goal.returns-clause-counted
returns-clause-counted c = λ script work opening o w down entries downs given transcript spelled f merged order t. step_counts script spelled work opening o w down entries downs f given merged order transcript t

pub returns-clause-views : goal.returns-clause-views
returns-clause-views c = λ script work opening o w down entries downs given transcript spelled f merged order t. step_views script spelled work opening o w down entries downs f given merged order transcript t
