-- When a pool agrees with what its primary knows of pages.
use Rattle.std.specs.Prelude.{◌≡◌, ℕ, ◌<◌, ◌≤◌, false, List, Option, Some, None}
use Rattle.mp_machine.specs.View.{part_in}
use Rattle.mp_cells.specs.declared.records.Mtr.{Mtr}
use Rattle.mp_cells.specs.PageView.{PageView}
use Rattle.mp_core_pages.specs.declared.part.PagesPart.{PagesPart}
use Rattle.mp_core_pages.specs.PageParts.{gave_at, durable_llsn, content_at, own_llsn}
use Rattle.mp_core.specs.declared.part.CorePart.{CorePart}
use Rattle.mp_core.specs.Contents.{page_ops}
use Rattle.mp_shared.specs.Nodes.{NodeView}
use Rattle.mp_buffer_fusion.specs.declared.buffer.Buffer.{Buffer}
use Rattle.mp_buffer_fusion.specs.Buffers.{buffer_of}

-- the page stands in a buffer that is not clean
abbrev pub IsDirty : Option Buffer → Type 0
IsDirty None = ⊥
IsDirty (Some b) = b.clean ≡ false

-- Each buffer has the content that the part has of its page, and each page on which the part made a record that is not in
-- the page's frame stands in a buffer that is not clean
pub record AgreesWith (pool : List Buffer) (p : PagesPart PageView Mtr) : Type 0 where
  pub shows : (k : ℕ) (b : Buffer) → buffer_of pool k ≡ Some b → content_at page_ops p.contents k ≡ Some b.page
  pub keeps : (k : ℕ) → gave_at p.gave k < own_llsn page_ops p.made k → IsDirty (buffer_of pool k)

-- the pool agrees with the part that a node has of a primary
abbrev pub AgreesIn : List Buffer → NodeView → ℕ → Type 0
AgreesIn pool n p = (q : CorePart) → part_in n.parts p ≡ Some q → AgreesWith pool q.pages

-- the primary's log is durable up to its last record on the page
abbrev pub IsDurablePage : NodeView → ℕ → ℕ → Type 0
IsDurablePage n p k = (q : CorePart) → part_in n.parts p ≡ Some q
    → own_llsn page_ops q.pages.made k ≤ durable_llsn q.trx.opening.base.llsn q.pages.durables

-- all records of the primary on the page are in the page's frame
abbrev pub IsInFrame : NodeView → ℕ → ℕ → Type 0
IsInFrame n p k = (q : CorePart) → part_in n.parts p ≡ Some q
    → own_llsn page_ops q.pages.made k ≤ gave_at q.pages.gave k

-- the primary has this content of the page
abbrev pub KnowsContent : NodeView → ℕ → ℕ → PageView → Type 0
KnowsContent n p k y = (q : CorePart) → part_in n.parts p ≡ Some q → content_at page_ops q.pages.contents k ≡ Some y
