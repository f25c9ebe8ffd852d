-- The head, the value and the zeros behind them, one after another.
use Rattle.std.proofs.Common.{◌∙◌, ap, length}
use Rattle.mp_cells.proofs.RowSpelling.{cell_parts, cell_whole}
use Rattle.mp_cells.proofs.row_bytes.row_cell.Goals as goal

pub returns-clause-whole : goal.returns-clause-whole
returns-clause-whole c = cell_whole c.copy_from_slice.new.self c.copy_from_slice-2.new.self c.copy_from_slice.ensures.len (ap length c.copy_from_slice-2.ensures.after ∙ c.value_bytes.ensures.whole)

pub returns-clause-bytes : goal.returns-clause-bytes
returns-clause-bytes c = cell_parts c.args.row.now c.copy_from_slice.new.self c.copy_from_slice-2.new.self c.copy_from_slice.ensures.len (ap length c.copy_from_slice-2.ensures.after ∙ c.value_bytes.ensures.whole) (c.copy_from_slice.ensures.after ∙ c.row_head.ensures.bytes) (c.copy_from_slice-2.ensures.after ∙ c.value_bytes.ensures.bytes)
