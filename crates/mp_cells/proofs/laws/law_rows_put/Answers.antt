-- The lower rows, the new one, the higher rows.
use Rattle.mp_cells.proofs.RowsPut.{row_at-with_cell}
use Rattle.mp_cells.proofs.laws.law_rows_put.Goals as goal

pub returns : goal.returns
returns c = row_at-with_cell
