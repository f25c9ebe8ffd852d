-- the undo page may be one
use Rattle.std.proofs.Common.{◌<◌, ◌≤◌, IfSome}
use Rattle.mp_tree_tests.proofs.tree.writes_all.Given as goal

abbrev pub invariant-loop-i : goal.invariant-loop-i
invariant-loop-i l = IfSome l.undo (λ u. (2 ≤ u) × (u < 4096))
