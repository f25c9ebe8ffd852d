use Rattle.mp_cluster.proofs.EndedMembers.{apart_legal, apart_readable}
use Rattle.mp_cluster.proofs.laws.law_apart_is_legal.Goals as goal

pub returns-clause-legal : goal.returns-clause-legal
returns-clause-legal g c = λ script base m given opening transcript spelled runs through primaries begins t.
    apart_legal g.D.Disk script base m given runs spelled through primaries opening begins transcript t

pub returns-clause-readable : goal.returns-clause-readable
returns-clause-readable g c = λ script base m given opening transcript spelled runs through primaries begins t.
    apart_readable g.D.Disk script base m given runs spelled through primaries opening begins transcript t
