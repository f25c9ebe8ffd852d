-- The one version is listed, or open; or what the listed commit wrote isn't there.
use Rattle.mp_recover.proofs.SmallChains.{gap, stands_committed, stands_open, stray_stands_not}
use Rattle.mp_recover.proofs.examples.law_standing_examples.Goals as goal

pub returns-clause-committed : goal.returns-clause-committed
returns-clause-committed c = stands_committed

pub returns-clause-open : goal.returns-clause-open
returns-clause-open c = stands_open

pub returns-clause-stray : goal.returns-clause-stray
returns-clause-stray c = stray_stands_not

pub returns-clause-bad : goal.returns-clause-bad
returns-clause-bad c = λ recoverable. gap recoverable.in_order
