use Rattle.mp_supports.proofs.Extending.{core_extends_refl, core_extends_trans}
use Rattle.mp_supports.proofs.laws.law_extends.Goals as goal

pub returns-clause-itself : goal.returns-clause-itself
returns-clause-itself c = core_extends_refl

pub returns-clause-onward : goal.returns-clause-onward
returns-clause-onward c = core_extends_trans
