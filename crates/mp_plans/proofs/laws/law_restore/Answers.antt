-- The leaf's row is put among all.
use Rattle.mp_plans.proofs.Finish.{well_restored}
use Rattle.mp_plans.proofs.laws.law_restore.Goals as goal

pub returns : goal.returns
returns c = well_restored
