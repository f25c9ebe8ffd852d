-- What is in the frames at the end of a run.
use Rattle.std.specs.Prelude.{◌≡◌, ℕ, ◌<◌, List, length, slice_get}
use Rattle.mp_machine.specs.Machine.{run, AllAllowed}
use Rattle.mp_machine.specs.View.{ViewAgrees}
use Rattle.mp_cells.specs.declared.records.Mtr.{Mtr}
use Rattle.mp_cells.specs.PageView.{PageView}
use Rattle.mp_core_pages.specs.declared.opening.TheConstants.{PAGES}
use Rattle.mp_core_pages.specs.declared.page_lock.Held.TheVariants.{Write}
use Rattle.mp_core_pages.specs.Histories.{folded}
use Rattle.mp_core_pages.specs.PageWorld.{PagesWorld}
use Rattle.mp_core_pages.specs.PageInvariant.{IsPrefix}
use Rattle.mp_core.specs.declared.event.CoreEvent.{CoreEvent}
use Rattle.mp_core.specs.Contents.{page_ops, pages_opening}
use Rattle.mp_core.specs.World.{core_part, core}
use Rattle.mp_shared.specs.Nodes.{NodeView}
use Rattle.mp_shared.specs.PageSteps.{held_in}

-- the pages after these steps of the node's run, of which the last stands first
abbrev pub pages_led_to : NodeView → List CoreEvent → PagesWorld PageView Mtr
pages_led_to n events = (run (core n.run.opening) events).pages

-- no part of the node writes the page
abbrev pub NobodyWrites : NodeView → ℕ → Type 0
NobodyWrites n k = (p : ℕ) → ¬ (held_in n p k ≡ Write)

-- Some steps that were each allowed when they came lead to a world that agrees with the node's parts. There is a page
-- for each number. Each is what some of the mtrs that were made first make of the opening's page, and those of them that
-- touch it are durable; where nobody writes it, it is what all mtrs make of it
pub record Closes (n : NodeView) (frames : List PageView) : Type 0 where
  pub events : List CoreEvent
  pub allowed : AllAllowed (core n.run.opening) events
  pub agrees : ViewAgrees (core_part (run (core n.run.opening) events)) n.parts
  pub count : length frames ≡ PAGES
  pub prefix : (k : ℕ) → k < PAGES → IsPrefix page_ops (pages_opening n.run.opening) (pages_led_to n events).history (pages_led_to n events).durables k (slice_get frames k)
  pub whole : (k : ℕ) → k < PAGES → NobodyWrites n k → slice_get frames k ≡ folded page_ops (pages_opening n.run.opening) (pages_led_to n events).history k
