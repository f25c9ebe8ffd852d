-- Page by page, and key by key.
use Rattle.mp_recover.proofs.SettledTree.{settled_tree}
use Rattle.mp_recover.proofs.RecoveredRows.{rows_recovered}
use Rattle.mp_recover.proofs.laws.law_rolled_back.Goals as goal

pub returns-clause-tree : goal.returns-clause-tree
returns-clause-tree c = settled_tree

pub returns-clause-rows : goal.returns-clause-rows
returns-clause-rows c = rows_recovered
