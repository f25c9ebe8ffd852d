-- There is room for a row more, and then it is put.
use Rattle.mp_cells.specs.RowCell.{row_cell}
use Rattle.mp_redo.proofs.Puts.{room_next, puts_next}
use Rattle.mp_redo.proofs.writing.put_rows.Goals as goal

pub put_row-requires : goal.put_row-requires
put_row-requires c = room_next row_cell c.args.rows.now c.loop-row.row-index c.row-item.result c.args.into.now c.loop-row.into c.loop-row-test.true c.row-item.is c.requires c.loop-row.invariant

pub loop-row-preserved : goal.loop-row-preserved
loop-row-preserved c = puts_next row_cell c.args.rows.now c.loop-row.row-index c.row-item.result c.args.into.now c.loop-row.into c.put_row.new.into c.loop-row-test.true c.row-item.is c.loop-row.invariant c.put_row.ensures
