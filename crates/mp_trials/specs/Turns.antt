-- What a primary that takes pages in turn and lets them go keeps of its part.
use Rattle.std.specs.Prelude.{◌≡◌, ℕ, ◌≤◌, max, List, Some, None}
use Rattle.mp_machine.specs.View.{part_in}
use Rattle.mp_cells.specs.declared.records.Mtr.{Mtr}
use Rattle.mp_cells.specs.PageView.{PageView}
use Rattle.mp_core_trx.specs.Events.{IsNode}
use Rattle.mp_core_pages.specs.declared.page_lock.Held.TheVariants.{Write}
use Rattle.mp_core_pages.specs.declared.part.PagesPart.{PagesPart}
use Rattle.mp_core_pages.specs.PageParts.{out_at, content_at, durable_llsn, last_llsn, own_llsn, told_llsn}
use Rattle.mp_core.specs.declared.part.CorePart.{CorePart}
use Rattle.mp_core.specs.Contents.{page_ops}
use Rattle.mp_shared.specs.Nodes.{NodeView}
use Rattle.mp_shared.specs.PageSteps.{held_in}
use Rattle.mp_buffer_fusion.specs.declared.buffer.Buffer.{Buffer}
use Rattle.mp_buffer_fusion.specs.Buffers.{IsBuffered}

-- The log ends at an LLSN and is durable up to there; no frame is out; and each content has an LLSN that the primary knows
-- by its log or by a page that it was given
pub record IsForcedUpTo (base last : ℕ) (p : PagesPart PageView Mtr) : Type 0 where
  pub ends : last_llsn page_ops base p.made ≡ last
  pub durable : durable_llsn base p.durables ≡ last
  pub own : (k : ℕ) → own_llsn page_ops p.made k ≤ last
  pub home : (k : ℕ) → out_at p.frames k ≡ None
  pub told : (k : ℕ) (y : PageView) → content_at page_ops p.contents k ≡ Some y → y.llsn ≤ max last (told_llsn page_ops p.given)

-- the node has such a part of the primary
pub record HasForced (n : NodeView) (p last : ℕ) : Type 0 where
  pub mine : CorePart
  pub holds : part_in n.parts p ≡ Some mine
  pub node : IsNode mine.trx.opening p
  pub forced : IsForcedUpTo mine.trx.opening.base.llsn last mine.pages

abbrev pub HasForcedLog : NodeView → ℕ → Type 0
HasForcedLog n p = (last : ℕ) × HasForced n p last

-- the log of the primary is not touched, and no frame is taken that is not given back
pub record KeepsLog (p : ℕ) (before after : NodeView) : Type 0 where
  pub run : after.run ≡ before.run
  pub frames : after.frames ≡ before.frames
  pub forced : (last : ℕ) → HasForced before p last → HasForced after p last

-- the primary writes the page, and has it in a buffer
abbrev pub HasPage : List Buffer → NodeView → ℕ → ℕ → Type 0
HasPage pool n p k = IsBuffered pool k × (held_in n p k ≡ Write)
