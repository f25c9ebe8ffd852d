-- What each change does to a page, and when it can be applied.
use Rattle.std.specs.Prelude.{◌≡◌, ℕ, ◌==◌, ◌&&◌, ◌||◌, not, Bool, nat_lt, nat_le, if◌then◌else◌, [], ◌∷◌, ◌++◌, length, Option, Some, None, Result, MatchOption, IsOk, IsErr, is_some}
use Rattle.std.specs.List.{AllByRecursion}
use Rattle.mp_cells.specs.declared.changes.NotApplicable.{NotApplicable}
use Rattle.mp_cells.specs.declared.changes.Change.{Change}
use Rattle.mp_cells.specs.declared.changes.Change.TheVariants.{MakeLeaf, MakeInner, MakeUndo, PutRow, RestoreRow, Cut, PutChild, PutUndo, TakePage}
use Rattle.mp_cells.specs.declared.kinds.Kind.TheVariants.{Blank, Meta, Leaf, Inner, Undo}
use Rattle.mp_cells.specs.declared.rows.Row.{Row}
use Rattle.mp_cells.specs.declared.children.Child.{Child}
use Rattle.mp_cells.specs.Keys.{holds, with_cell, cells_below}
use Rattle.mp_cells.specs.Rows.{IsRow}
use Rattle.mp_cells.specs.Children.{IsChild}
use Rattle.mp_cells.specs.PageView.{PageView, leaf_page, inner_page, undo_page, is_leaf, is_inner, bit_of, with_bit, is_of}

-- a leaf or an inner page
abbrev pub is_tree_page : PageView → Bool
is_tree_page page = is_of Leaf page || is_of Inner page

-- a key between the fences
abbrev pub is_within : ℕ → PageView → Bool
is_within key page = nat_le page.low key && nat_lt key page.high

-- a leaf holds the key
abbrev pub holds_row : ℕ → PageView → Bool
holds_row key page = holds (λ row. row.key) key page.rows

-- the conditions
abbrev pub can_be_inner : ℕ → ℕ → PageView → Bool
can_be_inner low high page = is_of Blank page || (is_tree_page page && page.low == low && page.high == high)

abbrev pub takes_row : Row → PageView → Bool
takes_row row page = is_of Leaf page && is_within row.key page && is_some row.writer && (holds_row row.key page || nat_lt (length page.rows) 15)

abbrev pub can_be_cut : ℕ → PageView → Bool
can_be_cut from page = is_tree_page page && nat_lt page.low from && nat_lt from page.high

abbrev pub takes_child : Child → PageView → Bool
takes_child child page = is_of Inner page && nat_lt page.low child.low && nat_lt child.low page.high && not (holds (λ c. c.low) child.low page.children) && nat_lt (length page.children) 124

abbrev pub takes_page : ℕ → PageView → Bool
takes_page number page = is_of Meta page && nat_le 2 number && nat_lt number 4096 && bit_of page.bits number == 0

-- the page after a change, where the change can be applied
abbrev pub applied : Change → PageView → Option PageView
applied (MakeLeaf low high rows) page = if is_of Blank page && is_leaf low high rows then Some (leaf_page page.llsn low high rows) else None
applied (MakeInner low high children) page = if can_be_inner low high page && is_inner low high children then Some (inner_page page.llsn low high children) else None
applied MakeUndo page = if is_of Blank page then Some (undo_page page.llsn []) else None
applied (PutRow row) page = if takes_row row page then Some (record page { rows = with_cell (λ r. r.key) row page.rows }) else None
applied (RestoreRow row) page = if is_of Leaf page && holds_row row.key page then Some (record page { rows = with_cell (λ r. r.key) row page.rows }) else None
applied (Cut from) page = if can_be_cut from page then Some (record page { high = from; rows = cells_below (λ r. r.key) from page.rows; children = cells_below (λ c. c.low) from page.children }) else None
applied (PutChild child) page = if takes_child child page then Some (record page { children = with_cell (λ c. c.low) child page.children }) else None
applied (PutUndo row) page = if is_of Undo page && nat_lt (length page.rows) 15 then Some (record page { rows = page.rows ++ row ∷ [] }) else None
applied (TakePage number) page = if takes_page number page then Some (record page { bits = with_bit page.bits number }) else None

-- the cells of a change are of rows and children that a page may keep
abbrev pub HasCells : Change → Type 0
HasCells (MakeLeaf low high rows) = AllByRecursion IsRow rows
HasCells (MakeInner low high children) = AllByRecursion IsChild children
HasCells MakeUndo = Unit {0}
HasCells (PutRow row) = IsRow row
HasCells (RestoreRow row) = IsRow row
HasCells (Cut from) = Unit {0}
HasCells (PutChild child) = IsChild child
HasCells (PutUndo row) = IsRow row
HasCells (TakePage number) = Unit {0}

-- what applying a change answers and leaves: the changed page, or, where it can't be applied, the page as it was
abbrev pub Applies : Change → PageView → PageView → Result (Unit {0}) NotApplicable → Type 0
Applies change old new result = MatchOption (applied change old) (IsErr result × (new ≡ old)) (λ page. IsOk result × (new ≡ page))
