-- What a search looks at and answers.
use Rattle.std.specs.Prelude.{◌≡◌, ◌≢◌, ℕ, zero, suc, ◌+◌, ◌-◌, ◌^◌, ◌<◌, ◌≤◌, ◌&&◌, nat_le, nat_lt, min, List, filter, length, Option, Some, None, Result, OnOk, IfErr, IfSome}
use Rattle.std.specs.List.{AllByRecursion}
use Rattle.mp_model.specs.declared.waiting.NotYet.{NotYet}
use Rattle.mp_cells.specs.declared.kinds.Kind.TheVariants.{Leaf, Inner}
use Rattle.mp_cells.specs.declared.rows.Row.{Row}
use Rattle.mp_cells.specs.PageView.{PageView, IsPage}
use Rattle.mp_cells.specs.Trees.{PageMap, top, root, tree_rows, leaf_at, child_at, uses}
use Rattle.mp_page.specs.Pagers.{Handed, Extends}
use Rattle.mp_tree.specs.declared.search.Look.{Look}
use Rattle.mp_tree.specs.declared.search.Look.TheVariants as looks
use Rattle.mp_tree.specs.declared.search.LeafRows.{LeafRows}
use Rattle.mp_tree.specs.declared.search.Stop.{Stop}
use Rattle.mp_tree.specs.declared.search.Path.{Path}

-- what a search sees in one page
abbrev pub Looks : ℕ → PageView → Look → Type 0
Looks key page looks.Leaf = page.kind ≡ Leaf
Looks key page (looks.Below number) = (page.kind ≡ Inner) × (number ≡ (child_at key page.children).page) × (number < 4096)
Looks key page looks.Lost = (page.kind ≢ Leaf) × (page.kind ≢ Inner)

-- the rows from one key on
abbrev pub rows_above : ℕ → List Row → List Row
rows_above low rows = filter (λ row. nat_le low row.key) rows

-- the rows from one key on and below another
abbrev pub rows_between : ℕ → ℕ → List Row → List Row
rows_between low high rows = filter (λ row. nat_le low row.key && nat_lt row.key high) rows

-- the leaf of a tree that may hold a key
abbrev pub leaf_for : PageMap → ℕ → ℕ → PageView
leaf_for pages height key = pages (leaf_at pages height key root).page

-- the rows from a key on of the leaf that may hold it, and that leaf's high fence: they are all rows between the two
pub record AreLeafRows (pages : PageMap) (height low : ℕ) (found : LeafRows) : Type 0 where
  pub rows : found.rows ≡ rows_above low (leaf_for pages height low).rows
  pub next : found.next ≡ (leaf_for pages height low).high
  pub above : low < found.next
  pub most : found.next ≤ top
  pub all : found.rows ≡ rows_between low found.next (tree_rows pages height)

-- the leaf of a tree that may hold a key was handed out
abbrev pub IsLeafRead : Handed → PageMap → ℕ → ℕ → Type 0
IsLeafRead handed pages height key = handed (leaf_at pages height key root).page ≡ Some (leaf_for pages height key)

-- a page on the way from the root to a key, at most two levels down
abbrev pub IsOnPath : ℕ → PageMap → ℕ → Type 0
IsOnPath key pages n = (depth : ℕ) × (depth ≤ 2) × (n ≡ (leaf_at pages depth key root).page)

-- what a call does with its pager: what was handed out stays, and it waits for nothing, or answers the last thing waited for
pub record Asks {P : Type 0} {A : Type 0} (handed : P → Handed) (waits : P → ℕ) (last : P → NotYet) (follows : P → P → Type 0) (withholds : P → ℕ → Type 0) (MayAsk : PageMap → ℕ → Type 0) (most : ℕ) (old new : P) (result : Result A NotYet) : Type 0 where
  pub same : follows old new
  pub kept : (n : ℕ) (page : PageView) → handed old n ≡ Some page → handed new n ≡ Some page
  pub quiet : OnOk result ((waits new ≡ waits old) × (last new ≡ last old))
  pub waited : IfErr result (λ wait. (min (waits old + 1) (2 ^ 64 - 1) ≤ waits new) × (last new ≡ wait))
  -- it asks for so many pages at most, each one that it may ask for, and no other is handed out
  pub asked : List ℕ
  pub few : length asked ≤ most
  pub may : (pages : PageMap) → Extends pages (handed new) → AllByRecursion (MayAsk pages) asked
  pub others : (n : ℕ) → uses n asked ≡ 0 → handed new n ≡ handed old n
  -- a page that was waited for is one of them
  pub withheld : IfErr result (λ wait. (n : ℕ) × (1 ≤ uses n asked) × withholds new n)

-- a page that was found is a leaf, and was handed out
pub record IsLeafAt (given : Handed) (stop : Stop) : Type 0 where
  pub range : stop.number < 4096
  pub handed : given stop.number ≡ Some stop.page
  pub page : IsPage stop.page
  pub kind : stop.page.kind ≡ Leaf

-- a page that was found is an inner page under which a search for the key goes on to a child, and was handed out
pub record IsParentAt (given : Handed) (key below : ℕ) (stop : Stop) : Type 0 where
  pub range : stop.number < 4096
  pub handed : given stop.number ≡ Some stop.page
  pub page : IsPage stop.page
  pub kind : stop.page.kind ≡ Inner
  pub child : (child_at key stop.page.children).page ≡ below

-- a leaf that was handed out, and the page above it, if there is one
pub record IsPathAt (given : Handed) (key : ℕ) (path : Path) : Type 0 where
  pub leaf : IsLeafAt given path.leaf
  pub parent : IfSome path.parent (IsParentAt given key path.leaf.number)

-- the page so many levels below the root on the way to a key
abbrev pub stop_on : PageMap → ℕ → ℕ → Stop
stop_on pages depth key = let number = (leaf_at pages depth key root).page in record { number = number; page = pages number }

-- the page above it
abbrev pub stop_above : PageMap → ℕ → ℕ → Option Stop
stop_above pages zero key = None
stop_above pages (suc depth) key = Some (stop_on pages depth key)

-- the leaf of the tree that may hold a key, and the page above it
abbrev pub path_on : PageMap → ℕ → ℕ → Path
path_on pages height key = record { leaf = stop_on pages height key; parent = stop_above pages height key }
