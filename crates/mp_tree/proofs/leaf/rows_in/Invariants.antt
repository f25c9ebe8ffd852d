-- the rows so far, and those that are left
use Rattle.std.proofs.Common.{◌≡◌, ◌++◌, ◌≤◌, length, drop}
use Rattle.std.specs.List.{AllByRecursion}
use Rattle.mp_cells.specs.Rows.{IsRow}
use Rattle.mp_tree.specs.Searches.{rows_above}
use Rattle.mp_tree.proofs.leaf.rows_in.Given as goal

abbrev pub invariant-loop-i : goal.invariant-loop-i
invariant-loop-i l = record {
  rest : l.rows ++ rows_above l.low (drop l.i l.page.rows) ≡ rows_above l.low l.page.rows;
  count : l.i-end ≡ length l.page.rows;
  few : length l.rows ≤ l.i;
  kept : AllByRecursion IsRow l.rows;
}
