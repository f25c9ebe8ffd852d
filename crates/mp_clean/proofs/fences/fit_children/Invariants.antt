-- the children that are left
use Rattle.std.proofs.Common.{◌≡◌, length, drop}
use Rattle.mp_cells.specs.PageMaps.{page_at}
use Rattle.mp_clean.specs.CleanPages.{kind_above, fit_children}
use Rattle.mp_clean.proofs.fences.fit_children.Given as goal

abbrev pub invariant-loop-i : goal.invariant-loop-i
invariant-loop-i l = record {
  rest : fit_children (page_at l.pages.items) (kind_above l.height) l.page.high (drop l.i l.page.children) ≡ fit_children (page_at l.pages.items) (kind_above l.height) l.page.high l.page.children;
  count : l.i-end ≡ length l.page.children;
}
