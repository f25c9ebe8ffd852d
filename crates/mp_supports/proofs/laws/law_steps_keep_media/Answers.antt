use Rattle.std.proofs.Common.{ap}
use Rattle.mp_cells.specs.declared.records.Mtr.{Mtr}
use Rattle.mp_cells.specs.PageView.{PageView}
use Rattle.mp_core_pages.specs.declared.part.PagesPart.{PagesPart}
use Rattle.mp_supports.proofs.Media.{disk_kept, disk_made, disk_forced}
use Rattle.mp_supports.proofs.laws.law_steps_keep_media.Goals as goal

pub returns-clause-looked : goal.returns-clause-looked
returns-clause-looked g c = λ work p q down tail unforced disk step. disk_kept p q step.extends step.made step.durables work down tail unforced (g.D.Disk.tells disk) (g.D.Disk.seen disk) (g.D.Disk.image disk)

pub returns-clause-trx : goal.returns-clause-trx
returns-clause-trx g c = λ work p q down tail unforced disk step. disk_kept p q step.extends (ap (λ (l : PagesPart PageView Mtr). l.made) step.pages) (ap (λ (l : PagesPart PageView Mtr). l.durables) step.pages) work down tail unforced (g.D.Disk.tells disk) (g.D.Disk.seen disk) (g.D.Disk.image disk)

pub returns-clause-made : goal.returns-clause-made
returns-clause-made g c = λ work p q down x old tail unforced disk. disk_made work p q down (g.D.Disk.tells disk) (g.D.Disk.seen disk) (g.D.Disk.image disk) x old tail unforced

pub returns-clause-forced : goal.returns-clause-forced
returns-clause-forced g c = λ work p q down tail batches disk. disk_forced work p q down (g.D.Disk.tells disk) (g.D.Disk.seen disk) (g.D.Disk.image disk) tail batches
