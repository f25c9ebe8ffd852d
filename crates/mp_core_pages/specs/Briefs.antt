-- The page core at LLSNs alone: a page is its LLSN, and an mtr is its node, its LLSN and the pages that it touches.
use Rattle.std.specs.Prelude.{ℕ, if◌then◌else◌, List}
use Rattle.mp_machine.specs.Machine.{AllowedFrom, run_from}
use Rattle.mp_core_pages.specs.declared.opening.PagesOpening.{PagesOpening}
use Rattle.mp_core_pages.specs.declared.event.PagesEvent.{PagesEvent}
use Rattle.mp_core_pages.specs.declared.opening.Brief.{Brief}
use Rattle.mp_core_pages.specs.Histories.{PageOps, is_touched}
use Rattle.mp_core_pages.specs.PageWorld.{PagesWorld, pages_start, paging, PagesFit}

abbrev pub llsn_ops : PageOps ℕ Brief
llsn_ops = record {
  llsn_of = λ y. y;
  maker_of = λ m. m.node;
  mtr_llsn = λ m. m.llsn;
  touches = λ m. m.touched;
  after_mtr = λ m k y. if is_touched k m.touched then m.llsn else y;
}

-- from every opening that fits, it holds after any steps each of which was allowed when it came
abbrev pub AtAllTimes : (PagesOpening ℕ → PagesWorld ℕ Brief → Type 0) → Type 0
AtAllTimes P = (opening : PagesOpening ℕ) (events : List (PagesEvent ℕ Brief)) → PagesFit llsn_ops opening
    → AllowedFrom (paging llsn_ops opening) (pages_start opening) events
    → P opening (run_from (paging llsn_ops opening) (pages_start opening) events)
