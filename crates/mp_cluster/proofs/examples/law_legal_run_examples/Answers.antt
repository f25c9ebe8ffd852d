-- By the rule that a transcript begins at its opening, and by what a kept disk tells.
use Rattle.std.proofs.Common.{◌∙◌}
use Rattle.mp_files.proofs.Nines.{KeptNine-refl}
use Rattle.mp_cluster.proofs.examples.law_legal_run_examples.Goals as goal

pub returns-clause-legal : goal.returns-clause-legal
returns-clause-legal g c = λ disks script opening transcript opened legal. record { opening = opening; opened = opened; legal = legal }

pub returns-clause-not_another : goal.returns-clause-not_another
returns-clause-not_another g c = λ disks script transcript tells other is. other (is.legal.begins.base ∙ (is.opened tells).base)

pub returns-clause-left : goal.returns-clause-left
returns-clause-left g c = λ disks. KeptNine-refl g.D.Disk disks

pub returns-clause-not_left : goal.returns-clause-not_left
returns-clause-not_left g c = λ old new other kept. other kept.store.tells
