-- The cell behind the last is written over a blank.
use Rattle.std.proofs.Common.{◌<◌, ◌+◌, ap, length, arith}
use Rattle.std.proofs.lemmas.List.{length-set, length-take-le, drop-set-lt}
use Rattle.mp_cells.proofs.InPlace.{IsPadded-longer}
use Rattle.mp_cells.proofs.row_cells.RowCells.put.Goals as goal

pub invariant_of-self : goal.invariant_of-self
invariant_of-self c =
    let len = c.self.inside.len in
    let cells = c.self.inside.rows in
    let room : len < 15 = omega (arith, c.requires, ap length c.self.view_is, length-take-le len cells (omega (arith, c.self.invariant.room, c.self.invariant.whole))) in
    IsPadded-longer (len + 1) _ c.self.invariant (omega arith) (omega arith) (length-set cells len c.args.cell) (drop-set-lt (len + 1) cells len c.args.cell (omega arith))
