use Rattle.mp_verdict.proofs.RunTold.{run_told, run_sees_earlier, run_holds_keys}
use Rattle.mp_verdict.proofs.told.law_run_conflicts.Goals as goal

pub returns-clause-told : goal.returns-clause-told
returns-clause-told c = λ script work opening o w down entries downs transcript spelled f t. run_told script spelled work opening o w down entries downs f transcript t

pub returns-clause-earlier : goal.returns-clause-earlier
returns-clause-earlier c = λ script work opening o w down entries downs transcript spelled f t. run_sees_earlier script spelled work opening o w down entries downs f transcript t

pub returns-clause-held : goal.returns-clause-held
returns-clause-held c = λ script work opening o w down entries downs transcript spelled f t. run_holds_keys script spelled work opening o w down entries downs f transcript t
