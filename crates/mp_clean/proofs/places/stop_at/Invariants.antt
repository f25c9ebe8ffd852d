-- so many levels down, the search is at this page
use Rattle.std.proofs.Common.{◌≡◌}
use Rattle.mp_cells.specs.PageMaps.{page_at}
use Rattle.mp_cells.specs.Trees.{root, leaf_at}
use Rattle.mp_clean.proofs.places.stop_at.Given as goal

abbrev pub invariant-loop-level : goal.invariant-loop-level
invariant-loop-level l = record {
  at : l.number ≡ (leaf_at (page_at l.pages.items) l._level l.key root).page;
}
