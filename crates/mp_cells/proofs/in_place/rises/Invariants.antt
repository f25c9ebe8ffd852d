-- the keys so far rise, so all of them do where the rest do from the next number on
use Rattle.std.proofs.Common.{◌≡◌, drop}
use Rattle.mp_cells.specs.Keys.{rises}
use Rattle.mp_cells.proofs.in_place.rises.Given as goal

abbrev pub invariant-loop-cell : goal.invariant-loop-cell
invariant-loop-cell g l = rises g.T.Keyed.key_of l.least l.high (drop l.cell-index l.cells) ≡ rises g.T.Keyed.key_of l.low l.high l.cells
