-- What writing adds to a text.
use Rattle.std.specs.Prelude.{◌≡◌, ℕ, ◌+◌, ◌≤◌, List, ◌++◌, length}
use Rattle.mp_model.specs.Listed.{Listed}
use Rattle.mp_cells.specs.declared.records.Record.{Record}
use Rattle.mp_cells.specs.declared.records.Record.TheVariants.{Page, Commit}
use Rattle.mp_cells.specs.Changes.{HasCells}

-- these bytes are added at the end, in free places
pub record Puts (bytes : List ℕ) (old new : Listed ℕ) : Type 0 where
  pub items : new.items ≡ old.items ++ bytes
  pub spare : old.spare ≤ new.spare + length bytes

-- the cells of a record are of rows and children that a page may keep
abbrev pub RecordHasCells : Record → Type 0
RecordHasCells (Page page prev change) = HasCells change
RecordHasCells (Commit id cts) = Unit {0}
