-- By each growth.
use Rattle.mp_plans.proofs.WritePlans.{well_written}
use Rattle.mp_plans.proofs.laws.law_write.Goals as goal

pub returns : goal.returns
returns c = well_written
