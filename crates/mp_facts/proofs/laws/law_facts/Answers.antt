use Rattle.mp_core.proofs.Law.{law_in_time}
use Rattle.mp_facts.proofs.Kept.{joint_in_time}
use Rattle.mp_facts.proofs.Groups.{facts}
use Rattle.mp_facts.proofs.laws.law_facts.Goals as goal

pub returns : goal.returns
returns c = λ opening events fair allowed. facts opening fair _ (law_in_time opening fair events allowed) (joint_in_time opening fair events allowed)
