-- By counting pages.
use Rattle.mp_cells.proofs.Heights.{height_most}
use Rattle.mp_plans.proofs.laws.law_three_levels.Goals as goal

pub returns : goal.returns
returns c = height_most
