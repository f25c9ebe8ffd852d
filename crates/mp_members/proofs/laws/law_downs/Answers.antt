use Rattle.mp_members.proofs.DownMembers.{down_by_another, failed_where_down}
use Rattle.mp_members.proofs.laws.law_downs.Goals as goal

pub returns-clause-cause : goal.returns-clause-cause
returns-clause-cause g c = λ work m given n runs node down. down_by_another g.D.Disk work m given runs n node down

pub returns-clause-failed : goal.returns-clause-failed
returns-clause-failed g c = λ work old new given n runs same node up down. failed_where_down g.D.Disk work old new given n runs same node up down
