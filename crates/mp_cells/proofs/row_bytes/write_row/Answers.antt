-- A cell has 64 bytes.
use Rattle.std.proofs.Common.{sym, ◌∙◌}
use Rattle.std.proofs.lemmas.List.{length-take-le}
use Rattle.mp_cells.proofs.row_bytes.write_row.Goals as goal

pub copy_from_slice-requires : goal.copy_from_slice-requires
copy_from_slice-requires c = length-take-le 64 c.args.into.now c.requires ∙ sym c.row_cell.ensures.whole
