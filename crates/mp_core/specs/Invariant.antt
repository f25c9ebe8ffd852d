-- The joint invariant, and the openings from which it holds.
use Rattle.std.specs.Prelude.{◌≡◌, ℕ, ◌+◌, ◌^◌, ◌<◌, List, length}
use Rattle.mp_cells.specs.declared.records.Mtr.{Mtr}
use Rattle.mp_cells.specs.Trees.{IsClean}
use Rattle.mp_cells.specs.PageMaps.{page_at}
use Rattle.mp_core_trx.specs.declared.part.SlotRow.{SlotRow}
use Rattle.mp_core_trx.specs.declared.slot.SlotTag.TheVariants.{Committed}
use Rattle.mp_core_trx.specs.Words.{shows}
use Rattle.mp_core_trx.specs.Parts.{trx, shown_at}
use Rattle.mp_core_trx.specs.World.{TrxNumbersFit, slot_rows_in}
use Rattle.mp_core_trx.specs.Invariant.{TrxInv}
use Rattle.mp_core_pages.specs.declared.opening.TheConstants.{PAGES}
use Rattle.mp_core_pages.specs.declared.part.Placed.{Placed}
use Rattle.mp_core_pages.specs.PageInvariant.{PagesInv}
use Rattle.mp_core.specs.declared.opening.CoreOpening.{CoreOpening}
use Rattle.mp_core.specs.Contents.{page_ops, pages_opening}
use Rattle.mp_core.specs.Commits.{HasDurableRecord}
use Rattle.mp_core.specs.Downs.{DownsInv}
use Rattle.mp_core.specs.World.{CoreWorld}

-- The numbers of the run stay within their formats, and it begins from the pages of a clean store, all of them
pub record NumbersFit (opening : CoreOpening) : Type 0 where
  pub trx : TrxNumbersFit opening.trx
  pub llsns_fit : opening.trx.base.llsn + 240000 < 2 ^ 62
  pub count : length opening.pages ≡ PAGES
  pub clean : IsClean opening.trx.base.llsn (page_at opening.pages)

-- each commit that a slot shows has its durable commit record in the log of the slot's node
abbrev pub CommitsDurable : ℕ → (ℕ → List SlotRow) → (ℕ → List (Placed Mtr)) → (ℕ → List ℕ) → Type 0
CommitsDurable base rows made durables = (n slot version cts : ℕ) → shown_at (rows n) slot ≡ shows Committed version cts
    → HasDurableRecord base (made n) (durables n) (trx n slot version) cts

-- What holds in every world that can be reached: each component's invariant, that commits are durable, and that who
-- is down is so with the number of one that went down by itself
pub record CoreInv (opening : CoreOpening) (w : CoreWorld) : Type 0 where
  pub trx : TrxInv opening.trx w.trx
  pub pages : PagesInv page_ops (pages_opening opening) w.pages
  pub records : CommitsDurable opening.trx.base.llsn (slot_rows_in w.trx) w.pages.made w.pages.durables
  pub downs : DownsInv opening.trx w.downs
