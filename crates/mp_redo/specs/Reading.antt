-- What the bytes of a log are read as: an mtr and where it ends, or the place of the first field that is cut off or not of
-- the grammar.
use Rattle.std.specs.Prelude.{ℕ, zero, suc, ◌+◌, ◌-◌, ◌*◌, ◌^◌, ◌==◌, ◌&&◌, nat_le, nat_lt, if◌then◌else◌, Bool, List, [], ◌∷◌, length, drop, slice_index, Option, Some, None, Result, Ok, Err}
use Rattle.mp_model.specs.declared.ids.TrxId.{TrxId}
use Rattle.mp_cells.specs.declared.rows.Row.{Row}
use Rattle.mp_cells.specs.declared.children.Child.{Child}
use Rattle.mp_cells.specs.declared.changes.Change.{Change}
use Rattle.mp_cells.specs.declared.changes.Change.TheVariants.{MakeLeaf, MakeInner, MakeUndo, PutRow, RestoreRow, Cut, PutChild, PutUndo, TakePage}
use Rattle.mp_cells.specs.declared.records.Record.{Record}
use Rattle.mp_cells.specs.declared.records.Record.TheVariants.{Page, Commit}
use Rattle.mp_cells.specs.declared.records.Mtr.{Mtr}
use Rattle.mp_cells.specs.Numbers.{number_at}
use Rattle.mp_cells.specs.Rows.{is_writer}
use Rattle.mp_cells.specs.RowCell.{row_of, is_row_cell}
use Rattle.mp_cells.specs.ChildCell.{child_of, is_child_cell}
use Rattle.mp_cells.specs.PageView.{are_fences}
use Rattle.mp_redo.specs.declared.kinds.ChangeKind.{ChangeKind}
use Rattle.mp_redo.specs.declared.kinds.ChangeKind.TheVariants as kinds
use Rattle.mp_redo.specs.Spelling.{commit_number}

-- a thing that was read, or the place of the first fault
abbrev pub Read : Type 0 → Type 0
Read T = Result T ℕ

-- what is read next, which may depend on what was read; the first fault stays
abbrev pub and_then : {A B : Type 0} → Read A → (A → Read B) → Read B
and_then (Ok x) next = next x
and_then (Err place) next = Err place

-- a field at a place, whose fault is there
abbrev pub field : {A : Type 0} → ℕ → Bool → A → Read A
field at test x = if test then Ok x else Err at

-- so many bytes from a place on aren't cut off
abbrev pub is_whole : ℕ → List ℕ → ℕ → Bool
is_whole width bytes at = nat_le (at + width) (length bytes)

-- a number in so many bytes, in a range
unfoldable pub number : ℕ → ℕ → ℕ → List ℕ → ℕ → Read ℕ
number width least most bytes at = let n = number_at at width bytes in field at (is_whole width bytes at && (nat_le least n && nat_le n most)) n

-- the cell of a row, and of a child
unfoldable pub row_at : List ℕ → ℕ → Read Row
row_at bytes at = let cell = drop at bytes in field at (is_whole 64 bytes at && is_row_cell cell) (row_of cell)

unfoldable pub child_at : List ℕ → ℕ → Read Child
child_at bytes at = let cell = drop at bytes in field at (is_whole 8 bytes at && is_child_cell cell) (child_of cell)

-- the id of a transaction: its node, a zero, its slot and its version
abbrev pub id_of : List ℕ → TrxId
id_of bytes = record { node = slice_index bytes 0; slot = number_at 2 2 bytes; version = number_at 4 4 bytes }

unfoldable pub id_at : List ℕ → ℕ → Read TrxId
id_at bytes at = let cell = drop at bytes in field at (is_whole 8 bytes at && (slice_index cell 1 == 0 && is_writer (id_of cell))) (id_of cell)

-- a cell whose key is from `least` on and below `high`
abbrev pub cell_in : {X : Type 0} → (List ℕ → ℕ → Read X) → (X → ℕ) → ℕ → ℕ → List ℕ → ℕ → Read X
cell_in cell_at key least high bytes at = and_then (cell_at bytes at) (λ cell. field at (nat_le least (key cell) && nat_lt (key cell) high) cell)

-- so many cells, each so wide, whose keys rise from `least` on and below `high`
abbrev pub cells_in : {X : Type 0} → (List ℕ → ℕ → Read X) → ℕ → (X → ℕ) → ℕ → ℕ → ℕ → List ℕ → ℕ → Read (List X)
cells_in cell_at width key zero least high bytes at = Ok []
cells_in cell_at width key (suc n) least high bytes at =
    and_then (cell_in cell_at key least high bytes at) (λ cell.
    and_then (cells_in cell_at width key n (key cell + 1) high bytes (at + width)) (λ cells.
    Ok (cell ∷ cells)))

abbrev pub row_in : ℕ → ℕ → List ℕ → ℕ → Read Row
row_in least high bytes at = cell_in row_at (λ row. row.key) least high bytes at

abbrev pub rows_in : ℕ → ℕ → ℕ → List ℕ → ℕ → Read (List Row)
rows_in count low high bytes at = cells_in row_at 64 (λ row. row.key) count low high bytes at

abbrev pub child_in : ℕ → ℕ → List ℕ → ℕ → Read Child
child_in least high bytes at = cell_in child_at (λ child. child.low) least high bytes at

abbrev pub children_in : ℕ → ℕ → ℕ → List ℕ → ℕ → Read (List Child)
children_in count low high bytes at = cells_in child_at 8 (λ child. child.low) count low high bytes at

-- two fences; a fault of the two together is at the first
abbrev pub fences_at : List ℕ → ℕ → Read (ℕ × ℕ)
fences_at bytes at =
    and_then (number 8 0 (2 ^ 64 - 1) bytes at) (λ low.
    and_then (number 8 0 (2 ^ 64 - 1) bytes (at + 8)) (λ high.
    field at (are_fences low high) (low, high)))

-- the change of a MakeLeaf record, from its fences on, and where it ends
abbrev pub make_leaf_at : List ℕ → ℕ → Read (Change × ℕ)
make_leaf_at bytes at =
    and_then (fences_at bytes at) (λ fences.
    and_then (number 1 0 15 bytes (at + 16)) (λ count.
    and_then (rows_in count fences.0 fences.1 bytes (at + 17)) (λ rows.
    Ok (MakeLeaf fences.0 fences.1 rows, at + 17 + 64 * count))))

-- the change of a MakeInner record: the first child has the low fence
abbrev pub make_inner_at : List ℕ → ℕ → Read (Change × ℕ)
make_inner_at bytes at =
    and_then (fences_at bytes at) (λ fences.
    and_then (number 1 1 124 bytes (at + 16)) (λ count.
    and_then (child_in fences.0 (fences.0 + 1) bytes (at + 17)) (λ first.
    and_then (children_in count fences.0 fences.1 bytes (at + 17)) (λ children.
    Ok (MakeInner fences.0 fences.1 children, at + 17 + 8 * count)))))

-- a change that has a row alone
abbrev pub change_of_row : ChangeKind → Row → Change
change_of_row kinds.RestoreRow row = RestoreRow row
change_of_row kinds.PutUndo row = PutUndo row
change_of_row _ row = PutRow row

abbrev pub row_change_at : ChangeKind → List ℕ → ℕ → Read (Change × ℕ)
row_change_at kind bytes at = and_then (row_at bytes at) (λ row. Ok (change_of_row kind row, at + 64))

-- a change of a kind, and where it ends
abbrev pub change_at : ChangeKind → List ℕ → ℕ → Read (Change × ℕ)
change_at kinds.MakeLeaf bytes at = make_leaf_at bytes at
change_at kinds.MakeInner bytes at = make_inner_at bytes at
change_at kinds.MakeUndo bytes at = Ok (MakeUndo, at)
change_at kinds.PutRow bytes at = row_change_at kinds.PutRow bytes at
change_at kinds.RestoreRow bytes at = row_change_at kinds.RestoreRow bytes at
change_at kinds.Cut bytes at = and_then (number 4 0 (2 ^ 32 - 1) bytes at) (λ from. Ok (Cut from, at + 4))
change_at kinds.PutChild bytes at = and_then (child_at bytes at) (λ child. Ok (PutChild child, at + 8))
change_at kinds.PutUndo bytes at = row_change_at kinds.PutUndo bytes at
change_at kinds.TakePage bytes at = and_then (number 2 2 4095 bytes at) (λ page. Ok (TakePage page, at + 2))

-- the kind with a number of 1 to 9
abbrev pub kind_of : ℕ → ChangeKind
kind_of n =
    if n == 1 then kinds.MakeLeaf
    else if n == 2 then kinds.MakeInner
    else if n == 3 then kinds.MakeUndo
    else if n == 4 then kinds.PutRow
    else if n == 5 then kinds.RestoreRow
    else if n == 6 then kinds.Cut
    else if n == 7 then kinds.PutChild
    else if n == 8 then kinds.PutUndo
    else kinds.TakePage

-- the rest of a record of a change, behind its kind: `prev` is at most the mtr's LLSN
abbrev pub page_record_at : ChangeKind → ℕ → List ℕ → ℕ → Read (Record × ℕ)
page_record_at kind llsn bytes at =
    and_then (number 2 0 4095 bytes at) (λ page.
    and_then (number 8 0 llsn bytes (at + 2)) (λ prev.
    and_then (change_at kind bytes (at + 10)) (λ change.
    Ok (Page page prev change.0, change.1))))

-- the rest of a commit record, behind its kind
abbrev pub commit_at : List ℕ → ℕ → Read (Record × ℕ)
commit_at bytes at =
    and_then (id_at bytes at) (λ id.
    and_then (number 8 1 (2 ^ 38 - 1) bytes (at + 8)) (λ cts.
    Ok (Commit id cts, at + 16)))

-- the greatest kind of a record among so many: a commit record stands alone
abbrev pub most_kind : ℕ → ℕ
most_kind count = if count == 1 then commit_number else 9

-- a record of an mtr with this LLSN
unfoldable pub record_at : ℕ → ℕ → List ℕ → ℕ → Read (Record × ℕ)
record_at most llsn bytes at =
    and_then (number 1 1 most bytes at) (λ kind.
    if kind == commit_number then commit_at bytes (at + 1) else page_record_at (kind_of kind) llsn bytes (at + 1))

-- so many records, one after another
abbrev pub records_at : ℕ → ℕ → ℕ → List ℕ → ℕ → Read (List Record × ℕ)
records_at zero most llsn bytes at = Ok ([], at)
records_at (suc n) most llsn bytes at =
    and_then (record_at most llsn bytes at) (λ item.
    and_then (records_at n most llsn bytes item.1) (λ rest.
    Ok (item.0 ∷ rest.0, rest.1)))

-- the mtr in front of the bytes, and where it ends
abbrev pub mtr_at : List ℕ → Read (Mtr × ℕ)
mtr_at bytes =
    and_then (number 1 1 8 bytes 0) (λ node.
    and_then (number 1 1 20 bytes 1) (λ count.
    and_then (number 8 1 (2 ^ 62 - 1) bytes 2) (λ llsn.
    and_then (records_at count (most_kind count) llsn bytes 10) (λ records.
    Ok (record { node = node; llsn = llsn; records = records.0 }, records.1)))))

-- the place of the fault, where there is one
abbrev pub fault_of : {A : Type 0} → Read A → Option ℕ
fault_of (Ok found) = None
fault_of (Err place) = Some place

-- the place of the first field that is cut off or not of the grammar, where the bytes begin with no mtr
abbrev pub mtr_fault : List ℕ → Option ℕ
mtr_fault bytes = fault_of (mtr_at bytes)
