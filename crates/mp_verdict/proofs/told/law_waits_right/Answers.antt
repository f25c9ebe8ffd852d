use Rattle.mp_verdict.proofs.Blocked.{held_in_run, waits_in_run}
use Rattle.mp_verdict.proofs.told.law_waits_right.Goals as goal

pub returns-clause-held : goal.returns-clause-held
returns-clause-held c = λ script work opening o w down entries downs run answer line verb name spelled f told. held_in_run script spelled work opening o w down entries downs f run told answer line verb name

pub returns-clause-waits : goal.returns-clause-waits
returns-clause-waits c = λ script work opening o w down entries downs run answer line spelled f told. waits_in_run script spelled work opening o w down entries downs f run told answer line
