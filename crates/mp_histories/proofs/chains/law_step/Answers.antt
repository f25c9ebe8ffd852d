-- By what the mtr does to the key.
use Rattle.mp_histories.specs.Commits.{HasStamp}
use Rattle.mp_histories.proofs.WriterSteps.{fits_step}
use Rattle.mp_histories.proofs.chains.law_step.Goals as goal

pub returns : goal.returns
returns c = λ base opening made mtr committed drew key clean runs covers. fits_step (HasStamp committed) (HasStamp drew) base opening clean made mtr runs covers key
