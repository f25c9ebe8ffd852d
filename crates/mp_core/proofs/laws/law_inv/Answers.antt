use Rattle.mp_core.proofs.Law.{law_in_time}
use Rattle.mp_core.proofs.laws.law_inv.Goals as goal

pub returns : goal.returns
returns c = λ opening events fair all. law_in_time opening fair events all
