-- By the kind of the mtr.
use Rattle.mp_histories.proofs.Applying.{meets_of, steps_of}
use Rattle.mp_histories.proofs.KeySteps.{puts_version, puts_back, leaves_key, ops_split}
use Rattle.mp_histories.proofs.chains.law_mtr_on_key.Goals as goal

pub returns-clause-puts : goal.returns-clause-puts
returns-clause-puts c = λ base opening made mtr row clean runs. puts_version base opening clean made mtr runs row

pub returns-clause-back : goal.returns-clause-back
returns-clause-back c = λ base opening made mtr row clean runs. puts_back base opening clean made mtr runs row

pub returns-clause-leaves : goal.returns-clause-leaves
returns-clause-leaves c = λ base opening made mtr key clean runs. leaves_key base opening clean made mtr runs key

pub returns-clause-before : goal.returns-clause-before
returns-clause-before c = ops_split

pub returns-clause-meets : goal.returns-clause-meets
returns-clause-meets c = λ base opening made mtr clean runs. meets_of base opening clean made mtr runs

pub returns-clause-steps : goal.returns-clause-steps
returns-clause-steps c = λ base opening made mtr clean runs. steps_of base opening clean made mtr runs
