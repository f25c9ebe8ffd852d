-- Commit records in a primary's log.
use Rattle.std.specs.Prelude.{◌≡◌, ℕ, ◌<◌, ◌≤◌, Some, length}
use Rattle.mp_machine.specs.View.{part_in}
use Rattle.mp_machine.specs.Lists.{IsIn}
use Rattle.mp_model.specs.declared.ids.TrxId.{TrxId}
use Rattle.mp_cells.specs.declared.records.Mtr.{Mtr}
use Rattle.mp_core_trx.specs.declared.slot.SlotTag.TheVariants.{Prep}
use Rattle.mp_core_trx.specs.Parts.{draw_of, HasBegun, Shows}
use Rattle.mp_core_trx.specs.Events.{IsNode}
use Rattle.mp_core_pages.specs.declared.part.Placed.{Placed}
use Rattle.mp_core_pages.specs.PageParts.{last_llsn}
use Rattle.mp_core.specs.declared.part.CorePart.{CorePart}
use Rattle.mp_core.specs.Contents.{page_ops}
use Rattle.mp_core.specs.Commits.{commit_records}
use Rattle.mp_shared.specs.Nodes.{NodeView}

-- The primary may record the commit of a transaction at a timestamp: it is prepared, and drew it
pub record MayCommitAt (n : NodeView) (p : ℕ) (id : TrxId) (cts : ℕ) : Type 0 where
  pub mine : CorePart
  pub holds : part_in n.parts p ≡ Some mine
  pub node : IsNode mine.trx.opening p
  pub begun : HasBegun mine.trx.begun id
  pub prepared : Shows mine.trx.rows id Prep
  pub drawn : IsIn (draw_of id cts) mine.trx.drew

-- The primary's log ends at an LLSN, and has at most so many mtrs, each of them a commit record of a version below one
pub record LogEndsAt (n : NodeView) (p llsn version : ℕ) : Type 0 where
  pub mine : CorePart
  pub holds : part_in n.parts p ≡ Some mine
  pub last : last_llsn page_ops mine.trx.opening.base.llsn mine.pages.made ≡ llsn
  pub few : length mine.pages.made ≤ llsn
  pub alone : (x : Placed Mtr) → IsIn x mine.pages.made → (id : TrxId) × (cts : ℕ) × (x.mtr.records ≡ commit_records id cts)
  pub below : (x : Placed Mtr) (id : TrxId) (cts : ℕ) → IsIn x mine.pages.made
      → x.mtr.records ≡ commit_records id cts → id.version < version
