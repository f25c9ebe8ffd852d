-- the cells so far, and the bytes behind them
use Rattle.std.proofs.Common.{◌≡◌, ◌*◌, ◌++◌, take, drop}
use Rattle.std.specs.List.{flat_map}
use Rattle.mp_cells.specs.RowCell.{row_cell}
use Rattle.mp_page.proofs.writing.write_rows.Given as goal

abbrev pub invariant-loop-i : goal.invariant-loop-i
invariant-loop-i l = l.into ≡ flat_map row_cell (take l.i l.rows) ++ drop (64 * l.i) l.initial.into
