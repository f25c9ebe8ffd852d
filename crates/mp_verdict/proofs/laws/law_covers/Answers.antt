use Rattle.mp_verdict.proofs.Covering.{covered}
use Rattle.mp_verdict.proofs.laws.law_covers.Goals as goal

pub returns : goal.returns
returns c = λ o w id under key view upper lower row other fit facts apart over puts before_puts before whole. covered o w fit facts id under key view apart over upper row puts lower other before_puts before whole
