use Rattle.mp_core.proofs.Law.{law_in_time}
use Rattle.mp_facts.proofs.Kept.{joint_in_time}
use Rattle.mp_facts.proofs.AllCommits.{commits_stand}
use Rattle.mp_facts.proofs.laws.law_commits_stand.Goals as goal

pub returns : goal.returns
returns c = λ opening events fair allowed. commits_stand opening fair _ (law_in_time opening fair events allowed) (joint_in_time opening fair events allowed)
