-- By the kinds of the root and of its first child.
use Rattle.std.proofs.Common.{ap}
use Rattle.mp_cells.specs.Trees.{tree_rows}
use Rattle.mp_cells.proofs.Heights.{height_is}
use Rattle.mp_cells.proofs.trees.law_heights.Goals as goal

pub returns-clause-height : goal.returns-clause-height
returns-clause-height c = height_is

pub returns-clause-rows : goal.returns-clause-rows
returns-clause-rows c = λ pages height tree. ap (tree_rows pages) (height_is pages height tree)
