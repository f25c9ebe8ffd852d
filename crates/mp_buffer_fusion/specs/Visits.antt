-- What a primary knows of a page once it took the page's frame and gave it back.
use Rattle.std.specs.Prelude.{◌≡◌, ℕ, ◌<◌, List, ◌∷◌, Some, None}
use Rattle.mp_machine.specs.Lists.{IsIn}
use Rattle.mp_machine.specs.Machine.{run, AllAllowed}
use Rattle.mp_machine.specs.View.{part_in, ViewAgrees}
use Rattle.mp_cells.specs.declared.records.Mtr.{Mtr}
use Rattle.mp_cells.specs.PageView.{PageView}
use Rattle.mp_core_trx.specs.Parts.{newest}
use Rattle.mp_core_pages.specs.declared.part.ContentStep.TheVariants.{Given}
use Rattle.mp_core_pages.specs.declared.part.PagesPart.{PagesPart}
use Rattle.mp_core_pages.specs.declared.part.Placed.{Placed}
use Rattle.mp_core_pages.specs.Histories.{folded}
use Rattle.mp_core_pages.specs.PageParts.{frame_row, gave_row, given_page}
use Rattle.mp_core.specs.declared.part.CorePart.{CorePart}
use Rattle.mp_core.specs.declared.event.CoreEvent.{CoreEvent}
use Rattle.mp_core.specs.Contents.{page_ops, pages_opening}
use Rattle.mp_core.specs.World.{core_part, core}
use Rattle.mp_shared.specs.Nodes.{NodeView}
use Rattle.mp_shared.specs.PageSteps.{with_pages}

-- a part after it took the frame of a page, with one page in it, and gave it back with another, its content from then on
abbrev pub with_visit : ℕ → PageView → PageView → ℕ → ℕ → PagesPart PageView Mtr → PagesPart PageView Mtr
with_visit k found left known height p = record p {
  frames = frame_row k None ∷ frame_row k (Some found) ∷ p.frames;
  contents = Given k left ∷ p.contents;
  given = given_page k left known height ∷ p.given;
  gave = gave_row k left.llsn ∷ p.gave;
}

-- The node took the frame of a page for a primary, and gave it back. The note of the given page has what the primary
-- knew as the greatest timestamp, and a height above the places of all mtrs that the node knew
pub record Visits (p k : ℕ) (found left : PageView) (before after : NodeView) : Type 0 where
  pub known : ℕ
  pub height : ℕ
  pub becomes : after ≡ with_pages before p (with_visit k found left known height) 2
  pub knew : (q : CorePart) → part_in before.parts p ≡ Some q → known ≡ newest q.trx
  pub since : (n : ℕ) (q : CorePart) (m : Placed Mtr) → part_in before.parts n ≡ Some q → IsIn m q.pages.made → m.at < height

-- in each world that can be reached and agrees with what the node knows, all mtrs together leave the page so
abbrev pub IsNewest : NodeView → ℕ → PageView → Type 0
IsNewest n k y = (events : List CoreEvent) → AllAllowed (core n.run.opening) events
    → ViewAgrees (core_part (run (core n.run.opening) events)) n.parts
    → folded page_ops (pages_opening n.run.opening) (run (core n.run.opening) events).pages.history k ≡ Some y
