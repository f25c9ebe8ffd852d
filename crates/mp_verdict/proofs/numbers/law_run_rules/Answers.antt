use Rattle.mp_verdict.proofs.RunRules.{run_begins, run_answered, run_numbered, run_counts, run_views}
use Rattle.mp_verdict.proofs.numbers.law_run_rules.Goals as goal

pub returns-clause-begins : goal.returns-clause-begins
returns-clause-begins c = λ script work opening o w down entries downs transcript spelled f t. run_begins script spelled work opening o w down entries downs f transcript t

pub returns-clause-answered : goal.returns-clause-answered
returns-clause-answered c = λ script work opening o w down entries downs transcript spelled f t. run_answered script spelled work opening o w down entries downs f transcript t

pub returns-clause-numbered : goal.returns-clause-numbered
returns-clause-numbered c = λ script work opening o w down entries downs transcript spelled f t. run_numbered script spelled work opening o w down entries downs f transcript t

pub returns-clause-counted : goal.returns-clause-counted
returns-clause-counted c = λ script work opening o w down entries downs transcript spelled f t. run_counts script spelled work opening o w down entries downs f transcript t

pub returns-clause-views : goal.returns-clause-views
returns-clause-views c = λ script work opening o w down entries downs transcript spelled f t. run_views script spelled work opening o w down entries downs f transcript t
