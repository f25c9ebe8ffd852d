-- What a node's part may become by steps.
use Rattle.std.specs.Prelude.{ℕ, ◌<◌, ◌≤◌, ◌⊎◌}
use Rattle.mp_machine.specs.Lists.{IsIn}
use Rattle.mp_cells.specs.declared.records.Mtr.{Mtr}
use Rattle.mp_cells.specs.PageView.{PageView}
use Rattle.mp_core_trx.specs.Parts.{PartExtends}
use Rattle.mp_core_pages.specs.declared.part.Placed.{Placed}
use Rattle.mp_core_pages.specs.declared.part.GivenPage.{GivenPage}
use Rattle.mp_core_pages.specs.PageParts.{durable_llsn, PagesExtends}
use Rattle.mp_core.specs.declared.part.CorePart.{CorePart}
use Rattle.mp_core.specs.OwnMtrs.{TrxMtr, trx_mtrs}
use Rattle.mp_core.specs.Downs.{DownsExtend}

-- up to which LLSN the node's log is durable
abbrev pub durable_of : CorePart → ℕ
durable_of p = durable_llsn p.trx.opening.base.llsn p.pages.durables

-- an mtr made at this place is later than all that the part had made and was given
pub record IsMadeLater (p : CorePart) (at : ℕ) : Type 0 where
  pub above_made : (x : Placed Mtr) → IsIn x p.pages.made → x.at < at
  pub above_given : (g : GivenPage PageView) → IsIn g p.pages.given → g.height ≤ at

-- The part may have come from the other by steps: nothing that it knew is lost, and what is new came later
pub record CoreExtends (old new : CorePart) : Type 0 where
  pub trx : PartExtends old.trx new.trx
  pub pages : PagesExtends old.pages new.pages
  pub durable : durable_of old ≤ durable_of new
  pub made_later : (x : TrxMtr) → IsIn x (trx_mtrs new.pages.made) → IsIn x (trx_mtrs old.pages.made) ⊎ IsMadeLater old x.at
  pub given_later : (g : GivenPage PageView) → IsIn g new.pages.given → IsIn g old.pages.given ⊎ ((x : Placed Mtr) → IsIn x old.pages.made → x.at < g.height)
  pub downs : DownsExtend old.downs new.downs
