-- the row is among those that are left
use Rattle.std.proofs.Common.{◌≡◌, length, drop}
use Rattle.mp_cells.specs.Trees.{row_at}
use Rattle.mp_tree.proofs.leaf.row_in.Given as goal

abbrev pub invariant-loop-i : goal.invariant-loop-i
invariant-loop-i l = record {
  rest : row_at l.key (drop l.i l.page.rows) ≡ row_at l.key l.page.rows;
  count : l.i-end ≡ length l.page.rows;
}
