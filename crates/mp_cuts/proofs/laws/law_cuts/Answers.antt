use Rattle.mp_core.proofs.Law.{law_in_time}
use Rattle.mp_facts.proofs.Kept.{joint_in_time}
use Rattle.mp_facts.proofs.Groups.{facts}
use Rattle.mp_cuts.proofs.Recoverable.{recoverable}
use Rattle.mp_cuts.proofs.laws.law_cuts.Goals as goal

pub returns-clause-reached : goal.returns-clause-reached
returns-clause-reached c = λ opening events count fair allowed valid.
    recoverable opening fair _ (facts opening fair _ (law_in_time opening fair events allowed) (joint_in_time opening fair events allowed)) count valid

pub returns-clause-facts : goal.returns-clause-facts
returns-clause-facts c = λ o w count fair f valid. recoverable o fair w f count valid
