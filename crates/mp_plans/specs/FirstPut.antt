-- The first put into a fresh map, worked out.
use Rattle.std.specs.Prelude.{ℕ, [], ◌∷◌, Some, None}
use Rattle.mp_cells.specs.declared.changes.Change.TheVariants.{MakeUndo, PutRow, PutUndo, TakePage}
use Rattle.mp_cells.specs.declared.rows.Row.{Row}
use Rattle.mp_cells.specs.Plans.{Plan}

-- the row of key 7 that transaction 1.0.1 deletes, with a link to this record of undo page 2
abbrev pub first_row : ℕ → Row
first_row index = record { key = 7; value = None; writer = Some (record { node = 1; slot = 0; version = 1 }); link = Some (record { page = 2; index = index }) }

-- page 2 is taken and made an undo page, a former version becomes its record, and the row is put into the root
abbrev pub first_put : Row → Row → Plan
first_put former row = (0, TakePage 2) ∷ (2, MakeUndo) ∷ (2, PutUndo former) ∷ (1, PutRow row) ∷ []
