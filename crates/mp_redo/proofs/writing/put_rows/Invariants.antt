-- the cells so far are put
use Rattle.std.proofs.Common.{take}
use Rattle.std.specs.List.{flat_map}
use Rattle.mp_cells.specs.RowCell.{row_cell}
use Rattle.mp_redo.specs.Writing.{Puts}
use Rattle.mp_redo.proofs.writing.put_rows.Given as goal

abbrev pub invariant-loop-row : goal.invariant-loop-row
invariant-loop-row l = Puts (flat_map row_cell (take l.row-index l.rows)) l.initial.into l.into
