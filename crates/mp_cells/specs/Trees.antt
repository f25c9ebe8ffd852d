-- Maps of pages that are a tree of pages: which ones are, their rows, and the leaf that may hold a key.
use Rattle.std.specs.Prelude.{◌≡◌, ◌≢◌, ℕ, zero, suc, ◌+◌, ◌<◌, ◌≤◌, ◌^◌, ◌==◌, nat_lt, if◌then◌else◌, Bool, List, [], ◌∷◌, ◌++◌, length, map, Option, Some, None}
use Rattle.std.specs.List.{flat_map, AllByRecursion}
use Rattle.mp_cells.specs.declared.kinds.Kind.{Kind}
use Rattle.mp_cells.specs.declared.kinds.Kind.TheVariants.{Blank, Meta, Leaf, Inner, Undo}
use Rattle.mp_cells.specs.declared.rows.Row.{Row}
use Rattle.mp_cells.specs.declared.children.Child.{Child}
use Rattle.mp_cells.specs.PageView.{PageView, IsPage, bit_of, is_of}

-- a page for each number
abbrev pub PageMap : Type 0
PageMap = ℕ → PageView

-- the bound above all keys
abbrev pub top : ℕ
top = 2 ^ 32

-- the root, as if it were a child
abbrev pub root : Child
root = record { low = 0; page = 1 }

-- the low key of the first of some children, or the bound behind them
abbrev pub low_of : List Child → ℕ → ℕ
low_of [] high = high
low_of (child ∷ children) high = child.low

-- a level of the tree, from left to right: each page is of the kind, its low fence is its child's low key, and its high
-- fence is the next child's low key, or the bound behind the last
abbrev pub Fits : PageMap → Kind → ℕ → List Child → Type 0
Fits pages kind high [] = Unit {0}
Fits pages kind high (child ∷ level) =
    ((pages child.page).kind ≡ kind) × ((pages child.page).low ≡ child.low) × ((pages child.page).high ≡ low_of level high) × Fits pages kind high level

-- the next level: the children of a level's pages, from left to right
abbrev pub below : PageMap → List Child → List Child
below pages level = flat_map (λ child. (pages child.page).children) level

-- so many levels of inner pages, from this level on, and then leaves
abbrev pub Levels : PageMap → ℕ → List Child → Type 0
Levels pages zero level = Fits pages Leaf top level
Levels pages (suc height) level = Fits pages Inner top level × Levels pages height (below pages level)

-- the leaves under a level
abbrev pub leaves : PageMap → ℕ → List Child → List Child
leaves pages zero level = level
leaves pages (suc height) level = leaves pages height (below pages level)

-- the numbers of the pages of a level and of those under it
abbrev pub pages_under : PageMap → ℕ → List Child → List ℕ
pages_under pages zero level = map (λ child. child.page) level
pages_under pages (suc height) level = map (λ child. child.page) level ++ pages_under pages height (below pages level)

-- the numbers of the pages of a tree
abbrev pub tree_pages : PageMap → ℕ → List ℕ
tree_pages pages height = pages_under pages height (root ∷ [])

-- 1 where a test holds
abbrev pub one_if : Bool → ℕ
one_if test = if test then 1 else 0

-- how often a number is among some
abbrev pub uses : ℕ → List ℕ → ℕ
uses n [] = 0
uses n (m ∷ numbers) = one_if (m == n) + uses n numbers

-- a map of 4,096 pages is a tree with so many levels of inner pages
pub record IsTree (pages : PageMap) (height : ℕ) : Type 0 where
  pub sound : (n : ℕ) → n < 4096 → IsPage (pages n)
  pub meta : (pages 0).kind ≡ Meta
  -- from the root down, the fences fit
  pub levels : Levels pages height (root ∷ [])
  -- the least fill, the root excepted
  pub leaf_fill : (n : ℕ) → n < 4096 → n ≢ 1 → (pages n).kind ≡ Leaf → 7 ≤ length (pages n).rows
  pub inner_fill : (n : ℕ) → n < 4096 → n ≢ 1 → (pages n).kind ≡ Inner → 62 ≤ length (pages n).children
  pub root_fill : (pages 1).kind ≡ Inner → 2 ≤ length (pages 1).children
  -- the bits that are set are those of the meta page, of the tree's pages, each once, and of the undo pages
  pub bits : (n : ℕ) → n < 4096 → bit_of (pages 0).bits n ≡ one_if (n == 0) + uses n (tree_pages pages height) + one_if (is_of Undo (pages n))
  -- all other pages are blank
  pub blank : (n : ℕ) → n < 4096 → bit_of (pages 0).bits n ≡ 0 → (pages n).kind ≡ Blank

-- the rows of some leaves
abbrev pub rows_under : PageMap → List Child → List Row
rows_under pages level = flat_map (λ child. (pages child.page).rows) level

-- the rows of all leaves, in key order
abbrev pub tree_rows : PageMap → ℕ → List Row
tree_rows pages height = rows_under pages (leaves pages height (root ∷ []))

-- the row of a key
abbrev pub row_at : ℕ → List Row → Option Row
row_at key [] = None
row_at key (row ∷ rows) = if row.key == key then Some row else row_at key rows

-- the child that may hold a key: the last whose low key isn't above it
abbrev pub child_from : ℕ → Child → List Child → Child
child_from key child [] = child
child_from key child (next ∷ children) = if nat_lt key next.low then child else child_from key next children

abbrev pub child_at : ℕ → List Child → Child
child_at key [] = root
child_at key (child ∷ children) = child_from key child children

-- the leaf that may hold a key, under a child
abbrev pub leaf_at : PageMap → ℕ → ℕ → Child → Child
leaf_at pages zero key child = child
leaf_at pages (suc height) key child = leaf_at pages height key (child_at key (pages child.page).children)

-- the height of a map of pages: the root is a leaf, or its first child is, or stands above leaves
abbrev pub height_of : PageMap → ℕ
height_of pages = if is_of Leaf (pages 1) then 0 else (if is_of Leaf (pages (child_at 0 (pages 1).children).page) then 1 else 2)

-- the rows of a map of pages, in key order
abbrev pub rows_in : PageMap → List Row
rows_in pages = tree_rows pages (height_of pages)

-- a row that no transaction is the writer of
abbrev pub IsUnwritten : Row → Type 0
IsUnwritten row = row.writer ≡ None

-- a clean map of pages: a tree without undo pages and without writers, where no LLSN is above the base
pub record IsClean (base : ℕ) (pages : PageMap) : Type 0 where
  pub tree : IsTree pages (height_of pages)
  pub no_undo : (n : ℕ) → n < 4096 → (pages n).kind ≢ Undo
  pub no_writers : (n : ℕ) → n < 4096 → (pages n).kind ≡ Leaf → AllByRecursion IsUnwritten (pages n).rows
  pub llsns : (n : ℕ) → n < 4096 → (pages n).llsn ≤ base
