-- A change that a record may have has cells that a page may keep.
use Rattle.mp_cells.specs.declared.changes.Change.{Change}
use Rattle.mp_cells.specs.declared.changes.Change.TheVariants.{MakeLeaf, MakeInner, MakeUndo, PutRow, RestoreRow, Cut, PutChild, PutUndo, TakePage}
use Rattle.mp_cells.specs.Changes.{HasCells}
use Rattle.mp_cells.specs.Mtrs.{IsChange}

pub has_cells : (change : Change) → IsChange change → HasCells change
has_cells (MakeLeaf low high rows) h = h.1
has_cells (MakeInner low high children) h = h.1
has_cells MakeUndo h = tt
has_cells (PutRow row) h = h
has_cells (RestoreRow row) h = h
has_cells (Cut from) h = tt
has_cells (PutChild child) h = h
has_cells (PutUndo row) h = h
has_cells (TakePage number) h = tt
