-- Page by page.
use Rattle.mp_cells.proofs.SmallTrees.{fresh_is_tree, fresh_is_clean, two_is_tree, two_is_clean, gap_is_none}
use Rattle.mp_cells.proofs.trees.law_small_maps.Goals as goal

pub returns-clause-fresh : goal.returns-clause-fresh
returns-clause-fresh c = fresh_is_tree

pub returns-clause-fresh_clean : goal.returns-clause-fresh_clean
returns-clause-fresh_clean c = fresh_is_clean

pub returns-clause-two : goal.returns-clause-two
returns-clause-two c = two_is_tree

pub returns-clause-two_clean : goal.returns-clause-two_clean
returns-clause-two_clean c = two_is_clean

pub returns-clause-gap : goal.returns-clause-gap
returns-clause-gap c = gap_is_none
