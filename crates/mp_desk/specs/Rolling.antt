-- How a row is put back, and why putting rows back stops.
use Rattle.std.specs.Prelude.{◌≡◌, ℕ, Some, None}
use Rattle.mp_machine.specs.View.{part_in}
use Rattle.mp_model.specs.declared.ids.TrxId.{TrxId}
use Rattle.mp_cells.specs.declared.records.Mtr.{Mtr}
use Rattle.mp_cells.specs.declared.rows.Row.{Row}
use Rattle.mp_cells.specs.Writes.{WellRestore}
use Rattle.mp_core_trx.specs.declared.slot.SlotTag.TheVariants.{Active}
use Rattle.mp_core_trx.specs.Parts.{HasBegun, Shows}
use Rattle.mp_core_pages.specs.declared.part.Placed.{Placed}
use Rattle.mp_core.specs.declared.part.CorePart.{CorePart}
use Rattle.mp_core.specs.Contents.{contents_of}
use Rattle.mp_core.specs.OwnMtrs.{row_put_by, row_restored_by, first_former, trx_of_mtr}
use Rattle.mp_shared.specs.Nodes.{NodeView}
use Rattle.mp_desk.specs.declared.desk.Desk.{Desk}
use Rattle.mp_desk.specs.declared.halts.BackHalt.{BackHalt}
use Rattle.mp_desk.specs.declared.halts.BackHalt.TheVariants as backs
use Rattle.mp_desk.specs.Desks.{MetWait}
use Rattle.mp_desk.specs.Planned.{HasTaken}
use Rattle.mp_desk.specs.Statements.{MakesThen}

-- The part made this mtr, which puts this row of a transaction back and puts none; it was quiet before
pub record MakesBack (id : TrxId) (row : Row) (x : Placed Mtr) (q r : CorePart) : Type 0 where
  pub makes : MakesThen x q r
  pub restored : row_restored_by x.mtr ≡ Some row
  pub put : row_put_by x.mtr ≡ None
  pub of : trx_of_mtr q.pages.made x.mtr ≡ Some id

-- The row is the one that stood before an open transaction's first write of its key
pub record IsFormer (id : TrxId) (row : Row) (q : CorePart) : Type 0 where
  pub begun : HasBegun q.trx.begun id
  pub active : Shows q.trx.rows id Active
  pub former : first_former q.pages.made id row.key ≡ Some row

-- so it is of the primary's part in a node
abbrev pub IsFormerIn : ℕ → TrxId → Row → NodeView → Type 0
IsFormerIn p id row n = (q : CorePart) → part_in n.parts p ≡ Some q → IsFormer id row q

-- The desk's plan puts a row back, over the contents that the part has, and its pages are the primary's to write
pub record IsPlannedBack (p : ℕ) (desk : Desk) (row : Row) (n : NodeView) : Type 0 where
  pub well : (q : CorePart) → part_in n.parts p ≡ Some q → WellRestore (contents_of q) row desk.plan
  pub taken : HasTaken p desk.pool desk.plan n

-- a page couldn't be had, somewhere on the way; or the log's disk failed
abbrev pub HaltsBack : ℕ → NodeView → NodeView → BackHalt → Type 0
HaltsBack p before after (backs.Word wait) = MetWait p before after wait
HaltsBack p before after backs.Failed = Unit {0}
