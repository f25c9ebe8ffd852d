-- Mini-transactions that a log may hold.
use Rattle.std.specs.Prelude.{ℕ, ◌<◌, ◌≤◌, ◌^◌, List, [], ◌∷◌, length, IsTrue}
use Rattle.std.specs.List.{AllByRecursion}
use Rattle.mp_cells.specs.declared.changes.Change.{Change}
use Rattle.mp_cells.specs.declared.changes.Change.TheVariants.{MakeLeaf, MakeInner, MakeUndo, PutRow, RestoreRow, Cut, PutChild, PutUndo, TakePage}
use Rattle.mp_cells.specs.declared.records.Record.{Record}
use Rattle.mp_cells.specs.declared.records.Record.TheVariants as records
use Rattle.mp_cells.specs.declared.records.Mtr.{Mtr}
use Rattle.mp_cells.specs.Rows.{IsRow, is_writer}
use Rattle.mp_cells.specs.Children.{IsChild, is_child_page}
use Rattle.mp_cells.specs.PageView.{is_leaf, is_inner}

-- a change that a record may have
abbrev pub IsChange : Change → Type 0
IsChange (MakeLeaf low high rows) = IsTrue (is_leaf low high rows) × AllByRecursion IsRow rows
IsChange (MakeInner low high children) = IsTrue (is_inner low high children) × AllByRecursion IsChild children
IsChange MakeUndo = Unit {0}
IsChange (PutRow row) = IsRow row
IsChange (RestoreRow row) = IsRow row
IsChange (Cut from) = from < 2 ^ 32
IsChange (PutChild child) = IsChild child
IsChange (PutUndo row) = IsRow row
IsChange (TakePage number) = IsTrue (is_child_page number)

-- a record of a change, in an mtr with this LLSN
abbrev pub IsPageRecord : ℕ → Record → Type 0
IsPageRecord llsn (records.Page page prev change) = (page < 4096) × (prev ≤ llsn) × IsChange change
IsPageRecord llsn (records.Commit id cts) = ⊥

-- the records of an mtr: one commit record, or records of changes
abbrev pub AreRecords : ℕ → List Record → Type 0
AreRecords llsn (records.Commit id cts ∷ []) = IsTrue (is_writer id) × (1 ≤ cts) × (cts < 2 ^ 38)
AreRecords llsn items = (1 ≤ length items) × (length items ≤ 20) × AllByRecursion (IsPageRecord llsn) items

-- an mtr that a log may hold
pub record IsMtr (mtr : Mtr) : Type 0 where
  pub node_least : 1 ≤ mtr.node
  pub node_most : mtr.node ≤ 8
  pub llsn_least : 1 ≤ mtr.llsn
  pub llsn : mtr.llsn < 2 ^ 62
  pub records : AreRecords mtr.llsn mtr.records
