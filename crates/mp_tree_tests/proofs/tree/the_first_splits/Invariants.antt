-- the undo page may be one
use Rattle.std.proofs.Common.{◌<◌, ◌≤◌, IfSome}
use Rattle.mp_tree_tests.proofs.tree.the_first_splits.Given as goal

abbrev pub invariant-loop-key : goal.invariant-loop-key
invariant-loop-key g l = IfSome l.undo (λ u. (2 ≤ u) × (u < 4096))
