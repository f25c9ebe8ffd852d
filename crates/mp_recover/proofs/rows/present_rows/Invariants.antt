-- The rows below the key are collected.
use Rattle.std.proofs.Common.{◌≡◌, ℕ, ◌≤◌}
use Rattle.mp_cells.specs.PageMaps.{page_at}
use Rattle.mp_cells.specs.Trees.{top, IsTree, tree_rows}
use Rattle.mp_tree.specs.Searches.{rows_between}
use Rattle.mp_recover.specs.KeptCommits.{present}
use Rattle.mp_recover.proofs.rows.present_rows.Given as goal

abbrev pub invariant-loop-leaf : goal.invariant-loop-leaf
invariant-loop-leaf l = record {
  same : l.all ≡ l.initial.all;
  rows : (height : ℕ) → IsTree (page_at l.initial.all.pages.items) height
      → (l.low ≤ top) × (l.rows.items ≡ present (rows_between 0 l.low (tree_rows (page_at l.initial.all.pages.items) height)));
}
