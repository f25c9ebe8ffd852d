-- How a tree of pages grows where a leaf has no place for a row, and the plan of a write.
use Rattle.std.specs.Prelude.{ℕ, zero, suc, ◌||◌, nat_lt, Bool, List, [], ◌∷◌, ◌++◌, length, take, drop, map, if◌then◌else◌}
use Rattle.mp_cells.specs.declared.changes.Change.{Change}
use Rattle.mp_cells.specs.declared.changes.Change.TheVariants.{MakeLeaf, MakeInner, MakeUndo, PutRow, Cut, PutChild, PutUndo, TakePage}
use Rattle.mp_cells.specs.declared.rows.Row.{Row}
use Rattle.mp_cells.specs.declared.children.Child.{Child}
use Rattle.mp_cells.specs.PageView.{PageView}
use Rattle.mp_cells.specs.Changes.{holds_row}
use Rattle.mp_cells.specs.Trees.{PageMap, top, root, leaf_at, row_at}
use Rattle.mp_cells.specs.Plans.{Plan}
use Rattle.mp_cells.specs.Writes.{version_of}

-- the key of the first of some cells
abbrev pub first_key : {T : Type 0} → (T → ℕ) → List T → ℕ
first_key key [] = 0
first_key key (cell ∷ cells) = key cell

-- the left part of a full leaf is its first 8 rows, and that of a full inner page its first 62 children; the separator is
-- the first key of the right part
abbrev pub leaf_separator : PageView → ℕ
leaf_separator page = first_key (λ row. row.key) (drop 8 page.rows)

abbrev pub inner_separator : PageView → ℕ
inner_separator page = first_key (λ child. child.low) (drop 62 page.children)

-- a full page m becomes its left part, and a new page r its right part
abbrev pub leaf_parts : PageView → ℕ → ℕ → Plan
leaf_parts page m r = (r, MakeLeaf (leaf_separator page) page.high (drop 8 page.rows)) ∷ (m, Cut (leaf_separator page)) ∷ []

abbrev pub inner_parts : PageView → ℕ → ℕ → Plan
inner_parts page m r = (r, MakeInner (inner_separator page) page.high (drop 62 page.children)) ∷ (m, Cut (inner_separator page)) ∷ []

-- the root's two children
abbrev pub two_children : ℕ → ℕ → ℕ → List Child
two_children separator l r = record { low = 0; page = l } ∷ record { low = separator; page = r } ∷ []

-- both parts of a full root become new pages, and the root an inner page of these two
abbrev pub root_leaf_parts : PageView → ℕ → ℕ → Plan
root_leaf_parts page l r =
    (l, MakeLeaf 0 (leaf_separator page) (take 8 page.rows)) ∷ (r, MakeLeaf (leaf_separator page) top (drop 8 page.rows)) ∷ (1, MakeInner 0 top (two_children (leaf_separator page) l r)) ∷ []

abbrev pub root_inner_parts : PageView → ℕ → ℕ → Plan
root_inner_parts page l r =
    (l, MakeInner 0 (inner_separator page) (take 62 page.children)) ∷ (r, MakeInner (inner_separator page) top (drop 62 page.children)) ∷ (1, MakeInner 0 top (two_children (inner_separator page) l r)) ∷ []

-- the page on the side of a separator that a key is on
abbrev pub side : ℕ → ℕ → ℕ → ℕ → ℕ
side key separator left right = if nat_lt key separator then left else right

-- a new right part as a child
abbrev pub put_child : ℕ → ℕ → ℕ → ℕ × Change
put_child parent low page = (parent, PutChild (record { low = low; page = page }))

-- how a tree grows for a row: it stays; the root, a leaf, is split; a leaf is split under a parent with a place; a leaf is
-- split and its parent too, under the root; a leaf is split and its parent, the root, too
pub data Growth : Type 0 where
  stays : Growth
  new_root : Growth
  leaf : ℕ → Growth
  inner : ℕ → Growth
  higher : Growth

-- how many new pages that takes
abbrev pub pages_needed : Growth → ℕ
pages_needed stays = 0
pages_needed new_root = 2
pages_needed (leaf parent) = 1
pages_needed (inner parent) = 2
pages_needed higher = 3

-- the changes, for a full leaf m, its parent and the root, with up to three new pages
abbrev pub growth_changes : Growth → ℕ → PageMap → ℕ → ℕ → ℕ → Plan
growth_changes stays m pages a b c = []
growth_changes new_root m pages a b c = root_leaf_parts (pages m) a b
growth_changes (leaf parent) m pages a b c = leaf_parts (pages m) m a ++ put_child parent (leaf_separator (pages m)) a ∷ []
growth_changes (inner parent) m pages a b c =
    leaf_parts (pages m) m a ++ inner_parts (pages parent) parent b
    ++ put_child (side (leaf_separator (pages m)) (inner_separator (pages parent)) parent b) (leaf_separator (pages m)) a ∷ put_child 1 (inner_separator (pages parent)) b ∷ []
growth_changes higher m pages a b c =
    leaf_parts (pages m) m a ++ root_inner_parts (pages 1) b c
    ++ put_child (side (leaf_separator (pages m)) (inner_separator (pages 1)) b c) (leaf_separator (pages m)) a ∷ []

-- the leaf that then takes the row of a key
abbrev pub leaf_after : Growth → ℕ → ℕ → PageMap → ℕ → ℕ → ℕ
leaf_after stays key m pages a b = m
leaf_after new_root key m pages a b = side key (leaf_separator (pages m)) a b
leaf_after (leaf parent) key m pages a b = side key (leaf_separator (pages m)) m a
leaf_after (inner parent) key m pages a b = side key (leaf_separator (pages m)) m a
leaf_after higher key m pages a b = side key (leaf_separator (pages m)) m a

-- the pages that a write takes: an undo page, where a fresh one is needed, and then those of the growth
abbrev pub new_pages : Bool → ℕ → Growth → ℕ → ℕ → ℕ → List ℕ
new_pages fresh u growth a b c = (if fresh then u ∷ [] else []) ++ take (pages_needed growth) (a ∷ b ∷ c ∷ [])

abbrev pub takes : List ℕ → Plan
takes numbers = map (λ n. (0, TakePage n)) numbers

-- the plan of a write of a row into a leaf m, with the undo page u
abbrev pub write_plan : Growth → ℕ → Bool → ℕ → PageMap → ℕ → ℕ → ℕ → Row → Plan
write_plan growth m fresh u pages a b c row =
    takes (new_pages fresh u growth a b c) ++ (if fresh then (u, MakeUndo) ∷ [] else []) ++ growth_changes growth m pages a b c
    ++ (u, PutUndo (version_of row.key (row_at row.key (pages m).rows))) ∷ (leaf_after growth row.key m pages a b, PutRow row) ∷ []

-- a leaf has a place for a key's row
abbrev pub has_place : ℕ → PageView → Bool
has_place key page = holds_row key page || nat_lt (length page.rows) 15

-- how a tree grows for a key's row
abbrev pub growth_of : PageMap → ℕ → ℕ → Growth
growth_of pages height key = if has_place key (pages (leaf_at pages height key root).page) then stays else grown height
  where
    under : ℕ → Growth → Growth
    under parent full = if nat_lt (length (pages parent).children) 124 then leaf parent else full

    grown : ℕ → Growth
    grown zero = new_root
    grown (suc zero) = under 1 higher
    grown (suc (suc more)) = let parent = (leaf_at pages (suc more) key root).page in under parent (inner parent)
