-- Page by page.
use Rattle.mp_recover.proofs.SmallSettled.{rolled_back_is_settled, unsettled}
use Rattle.mp_recover.proofs.examples.law_settled_examples.Goals as goal

pub returns-clause-good : goal.returns-clause-good
returns-clause-good c = rolled_back_is_settled

pub returns-clause-bad : goal.returns-clause-bad
returns-clause-bad c = unsettled
