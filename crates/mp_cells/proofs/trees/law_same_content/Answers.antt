-- Nothing in them looks at LLSNs but the range of each.
use Rattle.mp_cells.proofs.SamePages.{same_tree, same_rows, same_undo}
use Rattle.mp_cells.proofs.trees.law_same_content.Goals as goal

pub returns-clause-tree : goal.returns-clause-tree
returns-clause-tree c = λ pages new height same llsns tree. same_tree pages new same height llsns tree

pub returns-clause-rows : goal.returns-clause-rows
returns-clause-rows c = λ pages new height same. same_rows pages new same height

pub returns-clause-undo : goal.returns-clause-undo
returns-clause-undo c = λ pages new link same. same_undo pages new same link
