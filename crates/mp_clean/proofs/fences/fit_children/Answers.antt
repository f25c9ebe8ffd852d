-- The child doesn't fit, or leaves the test to those behind it.
use Rattle.std.proofs.Common.{sym, ◌∙◌}
use Rattle.mp_cells.specs.PageMaps.{page_at}
use Rattle.mp_clean.specs.CleanPages.{kind_above}
use Rattle.mp_clean.proofs.Cells.{child_amiss, child_fits}
use Rattle.mp_clean.proofs.fences.fit_children.Goals as goal

pub returns-then-not-fits_child : goal.returns-then-not-fits_child
returns-then-not-fits_child c =
    sym (child_amiss (page_at c.args.pages.now.items) (kind_above c.args.height) c.args.page.now.high c.args.page.now.children c.loop-i.i c.child.result c.end_of-high.result c.fits_child.result c.child.ensures.value c.end_of-high.ensures c.fits_child.ensures c.if-not-fits_child.true)
    ∙ c.loop-i.invariant.rest

pub loop-i-preserved : goal.loop-i-preserved
loop-i-preserved c = record {
  rest =
      sym (child_fits (page_at c.args.pages.now.items) (kind_above c.args.height) c.args.page.now.high c.args.page.now.children c.loop-i.i c.child.result c.end_of-high.result c.fits_child.result c.child.ensures.value c.end_of-high.ensures c.fits_child.ensures c.if-not-fits_child.false)
      ∙ c.loop-i.invariant.rest;
  count = c.loop-i.invariant.count;
}
