-- Change by change.
use Rattle.mp_cells.proofs.ChangeCells.{has_cells}
use Rattle.mp_cells.proofs.laws.law_change_cells.Goals as goal

pub returns : goal.returns
returns c = has_cells
