-- What a node holds of page locks, and what the steps on pages tell.
use Rattle.std.specs.Prelude.{◌≡◌, ℕ, ◌+◌, Option, None, Some}
use Rattle.mp_machine.specs.View.{part_in}
use Rattle.mp_cells.specs.declared.records.Mtr.{Mtr}
use Rattle.mp_cells.specs.PageView.{PageView}
use Rattle.mp_core_trx.specs.Parts.{newest}
use Rattle.mp_core_pages.specs.declared.page_lock.Held.{Held}
use Rattle.mp_core_pages.specs.declared.page_lock.Held.TheVariants.{No}
use Rattle.mp_core_pages.specs.declared.part.PagesPart.{PagesPart}
use Rattle.mp_core_pages.specs.declared.event.PagesEvent.TheVariants.{TakeFrame}
use Rattle.mp_core_pages.specs.PageParts.{held_at}
use Rattle.mp_core.specs.declared.part.CorePart.{CorePart}
use Rattle.mp_core.specs.declared.event.CoreEvent.TheVariants.{Pages}
use Rattle.mp_shared.specs.Nodes.{NodeView, node_with, Took}

-- how a part holds the lock of a page
abbrev pub held_by_part : Option CorePart → ℕ → Held
held_by_part (Some q) k = held_at q.pages.locks k
held_by_part None k = No

-- how the node holds the lock of a page for a primary
abbrev pub held_in : NodeView → ℕ → ℕ → Held
held_in n p k = held_by_part (part_in n.parts p) k

-- the node after a change of what one primary knows of pages, by so many operations on words
abbrev pub with_pages : NodeView → ℕ → (PagesPart PageView Mtr → PagesPart PageView Mtr) → ℕ → NodeView
with_pages n p f steps = node_with n p (λ q. record q { pages = f q.pages; ops = q.ops + steps })

-- the node after so many operations of one primary on words, of which it learned nothing that it keeps
abbrev pub with_ops : NodeView → ℕ → ℕ → NodeView
with_ops n p steps = with_pages n p (λ q. q) steps

-- The node took the frame of a page, which was at home with this page in it. The step noted with it what the primary
-- knew as the greatest timestamp
pub record TookFrame (p k : ℕ) (y : PageView) (before after : NodeView) : Type 0 where
  pub step : Took (Pages (TakeFrame p k)) before 0 after
  pub frame : step.note.frame ≡ Some y
  pub known : (q : CorePart) → part_in before.parts p ≡ Some q → step.note.known ≡ newest q.trx

-- the frame was not at home: the word of its turn was another number than 0
abbrev pub MissedFrame : ℕ → ℕ → NodeView → NodeView → Type 0
MissedFrame p k before after = (found : ℕ) × (¬ (found ≡ 0)) × Took (Pages (TakeFrame p k)) before found after
