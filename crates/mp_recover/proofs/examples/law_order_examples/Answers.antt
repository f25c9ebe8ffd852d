-- By computing; the restore's record begins above the base.
use Rattle.mp_recover.proofs.SmallChains.{gap}
use Rattle.mp_recover.proofs.examples.law_order_examples.Goals as goal

pub returns-clause-bad : goal.returns-clause-bad
returns-clause-bad c = gap
