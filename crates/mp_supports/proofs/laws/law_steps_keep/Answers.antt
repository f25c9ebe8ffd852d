use Rattle.std.proofs.Common.{ap}
use Rattle.mp_cells.specs.declared.records.Mtr.{Mtr}
use Rattle.mp_cells.specs.PageView.{PageView}
use Rattle.mp_core_trx.specs.declared.part.TrxPart.{TrxPart}
use Rattle.mp_core_pages.specs.declared.part.PagesPart.{PagesPart}
use Rattle.mp_supports.proofs.Unchanged.{opens_same, opens_commit, mirrors_kept, bounds_kept}
use Rattle.mp_supports.proofs.laws.law_steps_keep.Goals as goal

pub returns-clause-opens_looked : goal.returns-clause-opens_looked
returns-clause-opens_looked c = λ work p q down sessions step. opens_same work p q down step.extends step.begun step.rows step.made sessions

pub returns-clause-opens_forced : goal.returns-clause-opens_forced
returns-clause-opens_forced c = λ work p q down llsn sessions step. opens_same work p q down step.extends (ap (λ (t : TrxPart). t.begun) step.trx) (ap (λ (t : TrxPart). t.rows) step.trx) step.made sessions

pub returns-clause-opens_drawn : goal.returns-clause-opens_drawn
returns-clause-opens_drawn c = λ work p q down sessions step begun rows. opens_same work p q down step.extends begun rows (ap (λ (l : PagesPart PageView Mtr). l.made) step.pages) sessions

pub returns-clause-opens_commit : goal.returns-clause-opens_commit
returns-clause-opens_commit c = λ work p q down x sessions step no_put no_back. opens_commit work p q down step.extends x (ap (λ (t : TrxPart). t.begun) step.trx) (ap (λ (t : TrxPart). t.rows) step.trx) step.made no_put no_back sessions

pub returns-clause-mirrors_looked : goal.returns-clause-mirrors_looked
returns-clause-mirrors_looked c = λ p q down llsn undo step locks. mirrors_kept p q step.extends down llsn undo step.made locks

pub returns-clause-mirrors_forced : goal.returns-clause-mirrors_forced
returns-clause-mirrors_forced c = λ p q down llsn durable undo step. mirrors_kept p q step.extends down llsn undo step.made step.locks

pub returns-clause-mirrors_trx : goal.returns-clause-mirrors_trx
returns-clause-mirrors_trx c = λ p q down llsn undo step. mirrors_kept p q step.extends down llsn undo (ap (λ (l : PagesPart PageView Mtr). l.made) step.pages) (ap (λ (l : PagesPart PageView Mtr). l.locks) step.pages)

pub returns-clause-bounds_looked : goal.returns-clause-bounds_looked
returns-clause-bounds_looked c = λ work p q answers sessions step. bounds_kept p q step.extends work answers sessions step.made

pub returns-clause-bounds_forced : goal.returns-clause-bounds_forced
returns-clause-bounds_forced c = λ work p q llsn answers sessions step. bounds_kept p q step.extends work answers sessions step.made

pub returns-clause-bounds_trx : goal.returns-clause-bounds_trx
returns-clause-bounds_trx c = λ work p q answers sessions step. bounds_kept p q step.extends work answers sessions (ap (λ (l : PagesPart PageView Mtr). l.made) step.pages)
