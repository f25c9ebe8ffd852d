-- the blanks so far, and the cells behind them
use Rattle.std.proofs.Common.{◌≡◌, ◌++◌, drop, replicate}
use Rattle.mp_cells.proofs.in_place.blank_from.Given as goal

abbrev pub invariant-loop-cell : goal.invariant-loop-cell
invariant-loop-cell g l = l.cell-items ≡ replicate l.cell-index l.blank ++ drop l.cell-index l.initial.cell-items
