-- What a plan at a desk is, over any tree that has what the buffers show.
use Rattle.std.specs.Prelude.{◌≡◌, ℕ, ◌<◌, ◌≤◌, List, length, Option, Some, None, IsSome}
use Rattle.std.specs.List.{AllByRecursion}
use Rattle.mp_cells.specs.declared.rows.Link.{Link}
use Rattle.mp_cells.specs.declared.rows.Row.{Row}
use Rattle.mp_cells.specs.Plans.{Plan}
use Rattle.mp_cells.specs.Trees.{PageMap, IsTree, tree_rows, row_at}
use Rattle.mp_cells.specs.Writes.{WellPut, WellRestore}
use Rattle.mp_core_pages.specs.declared.page_lock.Held.TheVariants.{Write as Exclusive}
use Rattle.mp_page.specs.Pagers.{Extends}
use Rattle.mp_shared.specs.Nodes.{NodeView}
use Rattle.mp_shared.specs.PageSteps.{held_in}
use Rattle.mp_buffer_fusion.specs.declared.buffer.Buffer.{Buffer}
use Rattle.mp_buffer_fusion.specs.Buffers.{buffer_of, IsBuffered}
use Rattle.mp_tree.specs.declared.write.Write.{Write}
use Rattle.mp_tree.specs.declared.write.PlanRefusal.{PlanRefusal}
use Rattle.mp_tree.specs.declared.write.PlanRefusal.TheVariants as refusals
use Rattle.mp_tree.specs.Planning.{HasUndo, clear_pages}
use Rattle.mp_tree.specs.Writing.{row_of, IsReadOrMeta}
use Rattle.mp_desk.specs.Desks.{shown_by, MetWait}

-- over any tree that has what the buffers show, the plan puts the write's row
abbrev pub PlansWrite : List Buffer → Option ℕ → Write → Plan → Type 0
PlansWrite pool undo write plan = (pages : PageMap) → Extends pages (shown_by pool) → HasUndo pages undo → (height : ℕ)
    → IsTree pages height → (link : Link) × WellPut pages (row_of write link) plan

-- over any such tree that holds the row's key, the plan puts the row back
abbrev pub PlansBack : List Buffer → Row → Plan → Type 0
PlansBack pool row plan = (pages : PageMap) → Extends pages (shown_by pool) → (height : ℕ) → IsTree pages height
    → IsSome (row_at row.key (tree_rows pages height)) → WellRestore pages row plan

-- why there is no plan of a write: page 0, which has a buffer, has fewer pages clear than are needed, at most 4; or a page
-- couldn't be had
abbrev pub RefusesPlan : ℕ → List Buffer → NodeView → NodeView → PlanRefusal → Type 0
RefusesPlan p pool before after (refusals.Full needed clear) = (meta : Buffer) × (buffer_of pool 0 ≡ Some meta) × (needed ≤ 4)
    × (clear ≡ length (clear_pages meta.page)) × (clear < needed)
RefusesPlan p pool before after (refusals.NotYet wait) = MetWait p before after wait

-- why there is none over the buffers alone: the same; or a page that the plan asks for, over any such tree, has no buffer
abbrev pub RefusesHeld : List Buffer → ℕ → Option ℕ → PlanRefusal → Type 0
RefusesHeld pool key undo (refusals.Full needed clear) = (meta : Buffer) × (buffer_of pool 0 ≡ Some meta) × (needed ≤ 4)
    × (clear ≡ length (clear_pages meta.page)) × (clear < needed)
RefusesHeld pool key undo (refusals.NotYet wait) = (n : ℕ) × (buffer_of pool n ≡ None)
    × ((pages : PageMap) → Extends pages (shown_by pool) → IsReadOrMeta key undo pages n)

-- each page that the plan changes has a buffer, and is the primary's to write
abbrev pub HasTaken : ℕ → List Buffer → Plan → NodeView → Type 0
HasTaken p pool plan n = AllByRecursion (λ step. IsBuffered pool step.0 × (held_in n p step.0 ≡ Exclusive)) plan
