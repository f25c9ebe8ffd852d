-- Pages and mtrs as the page core sees them, and what the pages of an opening and of a node's part are.
use Rattle.std.specs.Prelude.{List, [], ◌∷◌}
use Rattle.mp_cells.specs.declared.records.Record.{Record}
use Rattle.mp_cells.specs.declared.records.Record.TheVariants as records
use Rattle.mp_cells.specs.declared.records.Mtr.{Mtr}
use Rattle.mp_cells.specs.PageView.{PageView, blank_page}
use Rattle.mp_cells.specs.Trees.{PageMap}
use Rattle.mp_cells.specs.Plans.{page_or}
use Rattle.mp_cells.specs.PageMaps.{after_mtr}
use Rattle.mp_core_pages.specs.declared.opening.PagesOpening.{PagesOpening}
use Rattle.mp_core_pages.specs.declared.opening.Touch.{Touch}
use Rattle.mp_core_pages.specs.Histories.{PageOps}
use Rattle.mp_core_pages.specs.PageParts.{content_at}
use Rattle.mp_core.specs.declared.opening.CoreOpening.{CoreOpening}
use Rattle.mp_core.specs.declared.part.CorePart.{CorePart}

-- the pages that records change, each with the LLSN that its record tells
abbrev pub touched_by : List Record → List Touch
touched_by [] = []
touched_by (records.Page page prev change ∷ items) = record { page = page; prev = prev } ∷ touched_by items
touched_by (records.Commit id cts ∷ items) = touched_by items

abbrev pub page_ops : PageOps PageView Mtr
page_ops = record {
  llsn_of = λ y. y.llsn;
  maker_of = λ m. m.node;
  mtr_llsn = λ m. m.llsn;
  touches = λ m. touched_by m.records;
  after_mtr = λ m k y. after_mtr m (λ _. y) k;
}

-- what the pages of a run begin from
abbrev pub pages_opening : CoreOpening → PagesOpening PageView
pages_opening opening = record {
  base = opening.trx.base.llsn;
  primaries = opening.trx.primaries;
  pages = opening.pages;
}

-- the contents that a node has of pages, and a blank page where it has none
abbrev pub contents_of : CorePart → PageMap
contents_of p k = page_or (blank_page 0) (content_at page_ops p.pages.contents k)
