-- Along the chain of the key.
use Rattle.mp_histories.proofs.KeySteps.{link_stays}
use Rattle.mp_histories.proofs.FirstPuts.{first_former}
use Rattle.mp_histories.proofs.chains.law_first_former.Goals as goal

pub returns-clause-link : goal.returns-clause-link
returns-clause-link c = λ base opening newer made mtr row clean. link_stays base opening clean newer made mtr row

pub returns-clause-former : goal.returns-clause-former
returns-clause-former c = λ base opening newer made mtr row writer v clean. first_former base opening clean newer made mtr row writer v
