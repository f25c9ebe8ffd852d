-- The rows below the place are settled.
use Rattle.std.proofs.Common.{◌≡◌, take}
use Rattle.std.specs.List.{AllByRecursion}
use Rattle.mp_cells.specs.Rows.{IsRow}
use Rattle.mp_cells.specs.PageMaps.{page_at}
use Rattle.mp_cells.specs.Writes.{undo_at}
use Rattle.mp_recover.specs.Settling.{trx_ids, rows_settled}
use Rattle.mp_recover.proofs.versions.settled_cells.Given as goal

abbrev pub invariant-loop-i : goal.invariant-loop-i
invariant-loop-i l = record {
  settled : l.cells ≡ rows_settled (trx_ids l.ids.items) (undo_at (page_at l.pages.items)) (take l.i l.page.rows);
  rows : AllByRecursion IsRow l.cells;
}
