-- A page of a list lent to be changed.
use Rattle.std.specs.Prelude.{ℕ, slice_set}
use Rattle.std.specs.Borrow.{Lends, MutBor, Fml}
use Rattle.mp_model.specs.Listed.{Listed}
use Rattle.mp_cells.specs.PageView.{PageView}
use Rattle.mp_page.specs.contracts.page.Page as page
use Rattle.mp_page.specs.contracts.pages.Pages as pages

-- the list ends with its i-th page as the last value behind r
abbrev pub LendsPage : MutBor (Listed PageView) → ℕ → MutBor PageView → Fml
LendsPage l i r = Lends pages.the_row page.the_row l r (λ page. record l.now { items = slice_set l.now.items i page })
