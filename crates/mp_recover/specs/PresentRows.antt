-- Rows with values, collected leaf by leaf.
use Rattle.std.specs.Prelude.{◌≡◌, ℕ, ◌<◌, ◌≤◌, List, ◌++◌}
use Rattle.mp_model.specs.declared.key_value.KeyValue.{KeyValue}
use Rattle.mp_cells.specs.declared.rows.Row.{Row}
use Rattle.mp_cells.specs.Trees.{top}
use Rattle.mp_tree.specs.Searches.{rows_between}
use Rattle.mp_recover.specs.KeptCommits.{present}

-- the rows with values between two keys were added to those before
pub record PushesLeaf (rows : List Row) (low next : ℕ) (old new : List KeyValue) : Type 0 where
  pub pushed : new ≡ old ++ present (rows_between low next rows)
  pub above : low < next
  pub most : next ≤ top
