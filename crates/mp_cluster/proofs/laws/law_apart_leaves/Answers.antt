use Rattle.mp_cluster.proofs.EndedMembers.{apart_closed}
use Rattle.mp_cluster.proofs.LeftLogs.{leaves_closed}
use Rattle.mp_cluster.proofs.laws.law_apart_leaves.Goals as goal

pub returns : goal.returns
returns g c = λ script base m given transcript spelled runs through primaries idle t.
    leaves_closed g.D.Disk script base m given runs.members idle transcript
    (λ opening begins. apart_closed g.D.Disk script base m given runs spelled through primaries opening begins transcript t c.law_left_outcome.ensures.run)
