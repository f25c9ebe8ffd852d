-- The rows with values of some rows of pages, by either word for them.
use Rattle.std.proofs.Common.{◌≡◌, ℕ, List, [], ◌∷◌, ◌++◌, Option, Some, None, refl, ap, ◌∙◌}
use Rattle.std.specs.List.{flat_map}
use Rattle.mp_model.specs.declared.key_value.KeyValue.{KeyValue}
use Rattle.mp_model.specs.Folded.{row_of}
use Rattle.mp_cells.specs.declared.rows.Row.{Row}
use Rattle.mp_supports.specs.Seeing.{key_value_of}
use Rattle.mp_recover.specs.KeptCommits.{write_of, present}

pub present_rows : (rows : List Row) → flat_map (λ row. key_value_of row.key row.value) rows ≡ present rows
present_rows [] = refl
present_rows (row ∷ rows) = ap (λ (front : List KeyValue). front ++ flat_map (λ (r : Row). key_value_of r.key r.value) rows) (one row.key row.value) ∙ ap (λ (rest : List KeyValue). row_of (write_of row) ++ rest) (present_rows rows)
  where
    one : (key : ℕ) (value : Option (List ℕ)) → key_value_of key value ≡ row_of (record { key = key; value = value })
    one key None = refl
    one key (Some value) = refl
