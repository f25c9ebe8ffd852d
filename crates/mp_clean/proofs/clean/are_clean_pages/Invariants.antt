-- the pages so far are as they should be
use Rattle.std.proofs.Common.{ℕ, ◌<◌, IsTrue}
use Rattle.mp_cells.specs.PageMaps.{page_at}
use Rattle.mp_cells.specs.PageView.{IsPage}
use Rattle.mp_clean.specs.CleanPages.{is_clean_page}
use Rattle.mp_clean.proofs.clean.are_clean_pages.Given as goal

abbrev pub invariant-loop-number : goal.invariant-loop-number
invariant-loop-number l = record {
  done : (k : ℕ) → k < l.number → IsPage (page_at l.pages.items k) × IsTrue (is_clean_page l.base l.height (page_at l.pages.items) k);
}
