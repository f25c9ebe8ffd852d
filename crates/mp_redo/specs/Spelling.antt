-- The bytes of a mini-transaction in a log.
use Rattle.std.specs.Prelude.{◌≡◌, ℕ, List, [], ◌∷◌, ◌++◌, length, Some}
use Rattle.std.specs.List.{flat_map}
use Rattle.byteorder.specs.Endian.{little_bytes}
use Rattle.mp_cells.specs.declared.changes.Change.{Change}
use Rattle.mp_cells.specs.declared.changes.Change.TheVariants.{MakeLeaf, MakeInner, MakeUndo, PutRow, RestoreRow, Cut, PutChild, PutUndo, TakePage}
use Rattle.mp_cells.specs.declared.records.Record.{Record}
use Rattle.mp_cells.specs.declared.records.Record.TheVariants.{Page, Commit}
use Rattle.mp_cells.specs.declared.records.Mtr.{Mtr}
use Rattle.mp_cells.specs.RowCell.{row_cell, writer_bytes}
use Rattle.mp_cells.specs.ChildCell.{child_cell}
use Rattle.mp_cells.specs.Mtrs.{IsMtr}
use Rattle.mp_redo.specs.declared.kinds.ChangeKind.{ChangeKind}
use Rattle.mp_redo.specs.declared.kinds.ChangeKind.TheVariants as kinds

-- the first byte of a record, by the kind of its change
abbrev pub kind_number : ChangeKind → ℕ
kind_number kinds.MakeLeaf = 1
kind_number kinds.MakeInner = 2
kind_number kinds.MakeUndo = 3
kind_number kinds.PutRow = 4
kind_number kinds.RestoreRow = 5
kind_number kinds.Cut = 6
kind_number kinds.PutChild = 7
kind_number kinds.PutUndo = 8
kind_number kinds.TakePage = 9

-- the first byte of a commit record
abbrev pub commit_number : ℕ
commit_number = 10

-- the kind of a change
abbrev pub kind_of_change : Change → ChangeKind
kind_of_change (MakeLeaf low high rows) = kinds.MakeLeaf
kind_of_change (MakeInner low high children) = kinds.MakeInner
kind_of_change MakeUndo = kinds.MakeUndo
kind_of_change (PutRow row) = kinds.PutRow
kind_of_change (RestoreRow row) = kinds.RestoreRow
kind_of_change (Cut from) = kinds.Cut
kind_of_change (PutChild child) = kinds.PutChild
kind_of_change (PutUndo row) = kinds.PutUndo
kind_of_change (TakePage number) = kinds.TakePage

-- the fields of a change
abbrev pub change_bytes : Change → List ℕ
change_bytes (MakeLeaf low high rows) = little_bytes 8 low ++ (little_bytes 8 high ++ length rows ∷ flat_map row_cell rows)
change_bytes (MakeInner low high children) = little_bytes 8 low ++ (little_bytes 8 high ++ length children ∷ flat_map child_cell children)
change_bytes MakeUndo = []
change_bytes (PutRow row) = row_cell row
change_bytes (RestoreRow row) = row_cell row
change_bytes (Cut from) = little_bytes 4 from
change_bytes (PutChild child) = child_cell child
change_bytes (PutUndo row) = row_cell row
change_bytes (TakePage number) = little_bytes 2 number

-- a record: its kind, then the page, the LLSN before and the change's fields, or the committed id and its timestamp
abbrev pub record_bytes : Record → List ℕ
record_bytes (Page page prev change) = kind_number (kind_of_change change) ∷ (little_bytes 2 page ++ (little_bytes 8 prev ++ change_bytes change))
record_bytes (Commit id cts) = commit_number ∷ (writer_bytes (Some id) ++ little_bytes 8 cts)

-- an mtr: its node, the count of its records, its LLSN, and the records one after another
unfoldable pub mtr_bytes : Mtr → List ℕ
mtr_bytes mtr = mtr.node ∷ length mtr.records ∷ (little_bytes 8 mtr.llsn ++ flat_map record_bytes mtr.records)

-- the bytes are those of an mtr that a log may hold
abbrev pub Spells : Mtr → List ℕ → Type 0
Spells mtr bytes = IsMtr mtr × (bytes ≡ mtr_bytes mtr)
