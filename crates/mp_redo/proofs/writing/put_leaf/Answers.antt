-- The fences and the count, and then the cells.
use Rattle.std.proofs.Common.{ap, length}
use Rattle.std.specs.List.{flat_map}
use Rattle.mp_cells.specs.RowCell.{row_cell}
use Rattle.mp_redo.proofs.Puts.{make_puts}
use Rattle.mp_redo.proofs.writing.put_leaf.Goals as goal

pub returns : goal.returns
returns c = make_puts c.args.low c.args.high (length c.args.rows.now) c.len.result (flat_map row_cell c.args.rows.now) (flat_map row_cell c.as_slice.result.now) c.args.into.now c.put_make.new.into c.put_rows.new.into c.len.ensures.count (ap (flat_map row_cell) c.as_slice.ensures) c.put_make.ensures c.put_rows.ensures
