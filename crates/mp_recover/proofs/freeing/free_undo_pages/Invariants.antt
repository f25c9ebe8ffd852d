-- The undo pages below the number are freed.
use Rattle.std.proofs.Common.{◌≡◌, length}
use Rattle.mp_cells.specs.PageMaps.{page_at}
use Rattle.mp_recover.specs.Settling.{undo_pages_freed}
use Rattle.mp_recover.proofs.freeing.free_undo_pages.Given as goal

abbrev pub invariant-loop-number : goal.invariant-loop-number
invariant-loop-number l = record {
  count : length l.pages.items ≡ 4096;
  freed : page_at l.pages.items ≡ undo_pages_freed l.number (page_at l.initial.pages.items);
}
