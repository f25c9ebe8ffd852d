-- the cells so far are such ones
use Rattle.std.proofs.Common.{◌≤◌, length}
use Rattle.std.specs.List.{AllByRecursion}
use Rattle.mp_cells.specs.Rows.{IsRow}
use Rattle.mp_tree_tests.proofs.tree_memory.checked_rows.Given as goal

abbrev pub invariant-loop-i : goal.invariant-loop-i
invariant-loop-i l = record { all : AllByRecursion IsRow l.kept; few : length l.kept ≤ l.i }
