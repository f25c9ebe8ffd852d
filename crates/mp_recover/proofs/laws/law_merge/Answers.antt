-- What a reader gives of a log ascends.
use Rattle.mp_recover.proofs.GivenRises.{all_to_merge}
use Rattle.mp_recover.proofs.laws.law_merge.Goals as goal

pub returns : goal.returns
returns g c = all_to_merge g.D.Disk
