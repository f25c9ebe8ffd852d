-- One page more.
use Rattle.std.proofs.Common.{ℕ, IsTrue, sym, ◌∙◌}
use borrow.Author.Count.{below_more}
use Rattle.mp_cells.specs.PageMaps.{page_at}
use Rattle.mp_cells.specs.PageView.{IsPage}
use Rattle.mp_clean.specs.CleanPages.{is_clean_page}
use Rattle.mp_clean.proofs.clean.are_clean_pages.Goals as goal

pub loop-number-preserved : goal.loop-number-preserved
loop-number-preserved c =
    let pages = page_at c.args.pages.now.items in
    record {
      done = below_more (λ (k : ℕ). IsPage (pages k) × IsTrue (is_clean_page c.args.base c.args.height pages k)) c.loop-number.number c.loop-number.invariant.done
          (c.is_clean_page.ensures.page, sym c.is_clean_page.ensures.value ∙ c.if-not-is_clean_page.false);
    }
