-- Each round blanks one cell more.
use Rattle.std.proofs.Common.{◌∙◌, ap, set, List, arith}
use Rattle.mp_cells.proofs.InPlace.{one_more_blank}
use Rattle.mp_cells.proofs.in_place.blank_from.Goals as goal

pub loop-cell-preserved : goal.loop-cell-preserved
loop-cell-preserved g c = ap (λ (cells : List g.row.T.Denot). set cells c.loop-cell.cell-index c.args.blank) c.loop-cell.invariant ∙ one_more_blank _ c.loop-cell.cell-index c.args.blank (omega arith)
