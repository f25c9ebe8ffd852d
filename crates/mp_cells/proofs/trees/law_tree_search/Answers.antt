-- The search, level by level.
use Rattle.mp_cells.specs.declared.rows.Row.{Row}
use Rattle.mp_cells.specs.Trees.{top, tree_rows}
use Rattle.mp_cells.proofs.KeyOrder.{test-from_Rises}
use Rattle.mp_cells.proofs.TreeSearch.{tree_rows_rise, tree_found, height_unique}
use Rattle.mp_cells.proofs.trees.law_tree_search.Goals as goal

pub returns-clause-rows_rise : goal.returns-clause-rows_rise
returns-clause-rows_rise c = λ pages height tree. test-from_Rises (λ (row : Row). row.key) 0 top (tree_rows pages height) (tree_rows_rise pages height tree)

pub returns-clause-found : goal.returns-clause-found
returns-clause-found c = λ pages height key tree lt. (tree_found pages height key tree lt).row

pub returns-clause-leaf : goal.returns-clause-leaf
returns-clause-leaf c = λ pages height key tree lt. (tree_found pages height key tree lt).kind

pub returns-clause-from : goal.returns-clause-from
returns-clause-from c = λ pages height key tree lt. (tree_found pages height key tree lt).from

pub returns-clause-until : goal.returns-clause-until
returns-clause-until c = λ pages height key tree lt. (tree_found pages height key tree lt).until

pub returns-clause-one_height : goal.returns-clause-one_height
returns-clause-one_height c = height_unique
