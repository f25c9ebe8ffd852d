-- The fold, page by page.
use Rattle.mp_cells.proofs.ByPage.{after_plan-page, Meets-pages, Meets-from_pages}
use Rattle.mp_plans.proofs.laws.law_plan_by_page.Goals as goal

pub returns-clause-page : goal.returns-clause-page
returns-clause-page c = after_plan-page

pub returns-clause-meets : goal.returns-clause-meets
returns-clause-meets c = λ plan pages. (Meets-pages plan pages, Meets-from_pages plan pages)
