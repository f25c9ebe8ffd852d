-- the cells so far are such ones
use Rattle.std.proofs.Common.{◌≤◌, length}
use Rattle.std.specs.List.{AllByRecursion}
use Rattle.mp_cells.specs.Children.{IsChild}
use Rattle.mp_tree_tests.proofs.tree_memory.checked_children.Given as goal

abbrev pub invariant-loop-i : goal.invariant-loop-i
invariant-loop-i l = record { all : AllByRecursion IsChild l.kept; few : length l.kept ≤ l.i }
