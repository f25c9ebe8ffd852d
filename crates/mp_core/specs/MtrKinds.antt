-- The three kinds of mtrs and when a node may make one: one puts a row, one puts a row back, and one records a commit. All
-- is asked of the node's own part.
use Rattle.std.specs.Prelude.{◌≡◌, ℕ, ◌⊎◌, None, Some, IfSome}
use Rattle.mp_machine.specs.Lists.{IsIn}
use Rattle.mp_model.specs.declared.ids.TrxId.{TrxId}
use Rattle.mp_cells.specs.declared.records.Mtr.{Mtr}
use Rattle.mp_cells.specs.declared.rows.Row.{Row}
use Rattle.mp_cells.specs.Mtrs.{IsMtr}
use Rattle.mp_cells.specs.Plans.{Meets, plan_of}
use Rattle.mp_cells.specs.Writes.{WellPut, WellRestore}
use Rattle.mp_core_trx.specs.declared.part.SlotLoad.{SlotLoad}
use Rattle.mp_core_trx.specs.declared.slot.SlotTag.TheVariants.{Active, Prep, Committed}
use Rattle.mp_core_trx.specs.Words.{shows, shown_of}
use Rattle.mp_core_trx.specs.Parts.{draw_of, HasBegun, Shows}
use Rattle.mp_core_pages.specs.declared.part.Placed.{Placed}
use Rattle.mp_core.specs.declared.part.CorePart.{CorePart}
use Rattle.mp_core.specs.Contents.{contents_of}
use Rattle.mp_core.specs.OwnMtrs.{row_kept_by, row_restored_by, commit_by_mtr, owner_of, first_former, TrxMtr, trx_mtrs}

-- The node loaded the word of the transaction's slot, and it showed the transaction committed
pub record SawCommitted (p : CorePart) (id : TrxId) : Type 0 where
  pub load : SlotLoad
  pub loaded : IsIn load p.trx.loaded
  pub of : load.of ≡ id.node
  pub slot : load.slot ≡ id.slot
  pub cts : ℕ
  pub showed : shown_of load.word ≡ shows Committed id.version cts

-- a transaction of the node may put its version over this one: it has no writer, or the transaction wrote it, or its
-- writer was seen committed
abbrev pub MayPutOver : CorePart → TrxId → Row → Type 0
MayPutOver p id former = (former.writer ≡ None) ⊎ ((former.writer ≡ Some id) ⊎ ((other : TrxId) × (former.writer ≡ Some other) × SawCommitted p other))

-- The mtr puts a row of an ACTIVE transaction of the node, over the contents that the node has
pub record MayPut (p : CorePart) (m : Mtr) : Type 0 where
  pub row : Row
  pub id : TrxId
  pub writer : row.writer ≡ Some id
  pub begun : HasBegun p.trx.begun id
  pub active : Shows p.trx.rows id Active
  pub well : WellPut (contents_of p) row (plan_of m.records)
  pub over : IfSome (row_kept_by m) (MayPutOver p id)

-- The mtr puts back the row that an ACTIVE transaction's first put of a key replaced, where the key is still its own
pub record MayRestore (p : CorePart) (m : Mtr) : Type 0 where
  pub row : Row
  pub id : TrxId
  pub owner : owner_of p.pages.made row.key ≡ Some id
  pub begun : HasBegun p.trx.begun id
  pub active : Shows p.trx.rows id Active
  pub former : first_former p.pages.made id row.key ≡ Some row
  pub well : WellRestore (contents_of p) row (plan_of m.records)

-- The mtr is the first commit record of a prepared transaction of the node, with the timestamp that it drew; nothing of
-- the transaction was put back
pub record MayRecordCommit (p : CorePart) (m : Mtr) : Type 0 where
  pub id : TrxId
  pub cts : ℕ
  pub records : commit_by_mtr m ≡ Some (draw_of id cts)
  pub begun : HasBegun p.trx.begun id
  pub prepared : Shows p.trx.rows id Prep
  pub drawn : IsIn (draw_of id cts) p.trx.drew
  pub first : (x : Placed Mtr) (c : ℕ) → IsIn x p.pages.made → commit_by_mtr x.mtr ≡ Some (draw_of id c) → ⊥
  pub whole : (x : TrxMtr) → IsIn x (trx_mtrs p.pages.made) → x.of ≡ Some id → row_restored_by x.mtr ≡ None

-- What an mtr asks besides what the page core asks: a log may hold it, it can be applied to the contents that its node
-- has, and it is of one of the three kinds
pub record MayLog (p : CorePart) (m : Mtr) : Type 0 where
  pub mtr : IsMtr m
  pub meets : Meets (plan_of m.records) (contents_of p)
  pub kind : MayPut p m ⊎ (MayRestore p m ⊎ MayRecordCommit p m)
