-- Small nodes, on which the words of contracts are tried.
use Rattle.std.specs.Prelude.{ℕ, List, [], ◌∷◌, Some, None}
use Rattle.mp_machine.specs.View.{View}
use Rattle.mp_cells.specs.PageView.{PageView}
use Rattle.mp_core_pages.specs.declared.page_lock.Held.{Held}
use Rattle.mp_core_pages.specs.PageParts.{lock_row, frame_row}
use Rattle.mp_core.specs.declared.part.CorePart.{CorePart}
use Rattle.mp_shared.specs.Nodes.{Run, NodeView}

-- the node that holds the part of primary 1 alone
abbrev pub node_of_first : Run → CorePart → NodeView
node_of_first run q = record { run = run; parts = None ∷ Some q ∷ []; frames = [] }

-- a part that holds the lock of page 0 so, and no other
abbrev pub holding_zero : Held → CorePart → CorePart
holding_zero held q = record q { pages = record (q.pages) { locks = lock_row 0 held ∷ [] } }

-- a part that has the frame of page 3, and no other
abbrev pub has_three : PageView → CorePart → CorePart
has_three y q = record q { pages = record (q.pages) { frames = frame_row 3 (Some y) ∷ [] } }

-- a view with this part alone, of node 0
abbrev pub view_of_one : CorePart → View CorePart
view_of_one q = Some q ∷ []
