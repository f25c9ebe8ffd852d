use Rattle.mp_verdict.proofs.Numbering.{counts, are_numbered}
use Rattle.mp_verdict.proofs.numbers.law_numbered.Goals as goal

pub returns-clause-counted : goal.returns-clause-counted
returns-clause-counted c = λ script work opening o w down entries downs run spelled f told apart. counts script spelled work opening o w down entries downs f run told apart

pub returns-clause-numbered : goal.returns-clause-numbered
returns-clause-numbered c = λ script work opening o w down entries downs run spelled f told apart. are_numbered script spelled work opening o w down entries downs f run told apart
