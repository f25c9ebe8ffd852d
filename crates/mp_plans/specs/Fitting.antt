-- What a write needs of the pages that it changes.
use Rattle.std.specs.Prelude.{◌≡◌, ℕ, ◌<◌, ◌≤◌, Bool, true, false, length, map, Some, is_some, if◌then◌else◌}
use Rattle.std.specs.List.{AllByRecursion}
use Rattle.mp_cells.specs.declared.kinds.Kind.TheVariants.{Leaf, Inner, Undo}
use Rattle.mp_cells.specs.declared.rows.Row.{Row}
use Rattle.mp_cells.specs.Rows.{IsRow}
use Rattle.mp_cells.specs.PageView.{PageView, bit_of}
use Rattle.mp_cells.specs.Trees.{PageMap, uses}
use Rattle.mp_plans.specs.Growth.{Growth, stays, new_root, leaf, inner, higher, new_pages, has_place}

-- a leaf between whose fences a key lies
pub record IsLeafOf (key : ℕ) (page : PageView) : Type 0 where
  pub kind : page.kind ≡ Leaf
  pub from : page.low ≤ key
  pub until : key < page.high

-- a page that can be taken
abbrev pub IsClear : PageView → ℕ → Type 0
IsClear meta n = (2 ≤ n) × (n < 4096) × (bit_of meta.bits n ≡ 0)

-- what each growth needs of the pages that it changes: full ones, each under its parent
abbrev pub IsFullLeaf : PageView → Type 0
IsFullLeaf page = length page.rows ≡ 15

pub record IsParent (pages : PageMap) (m p : ℕ) : Type 0 where
  pub range : p < 4096
  pub kind : (pages p).kind ≡ Inner
  pub has : 1 ≤ uses m (map (λ child. child.page) (pages p).children)

abbrev pub GrowthFits : PageMap → ℕ → ℕ → Growth → Type 0
GrowthFits pages key m stays = has_place key (pages m) ≡ true
GrowthFits pages key m new_root = (m ≡ 1) × IsFullLeaf (pages m)
GrowthFits pages key m (leaf p) = IsFullLeaf (pages m) × IsParent pages m p × (length (pages p).children < 124)
GrowthFits pages key m (inner p) = IsFullLeaf (pages m) × IsParent pages m p × (length (pages p).children ≡ 124) × IsParent pages p 1 × (length (pages 1).children < 124)
GrowthFits pages key m higher = IsFullLeaf (pages m) × IsParent pages m 1 × (length (pages 1).children ≡ 124)

-- the current undo page has a place, where no fresh one is needed
abbrev pub UndoFits : Bool → ℕ → PageMap → Type 0
UndoFits true u pages = Unit {0}
UndoFits false u pages = (u < 4096) × ((pages u).kind ≡ Undo) × (length (pages u).rows < 15)

-- what a write of a row into a leaf m needs: how the tree grows fits, the new pages are clear, and no two are one
pub record WriteFits (pages : PageMap) (growth : Growth) (m : ℕ) (fresh : Bool) (u a b c : ℕ) (row : Row) : Type 0 where
  pub range : m < 4096
  pub is_leaf : IsLeafOf row.key (pages m)
  pub fits : GrowthFits pages row.key m growth
  pub clear : AllByRecursion (IsClear (pages 0)) (new_pages fresh u growth a b c)
  pub once : (n : ℕ) → uses n (new_pages fresh u growth a b c) ≤ 1
  pub undo : UndoFits fresh u pages
  pub is_row : IsRow row
  pub writer : is_some row.writer ≡ true
  pub link : row.link ≡ Some (record { page = u; index = (if fresh then 0 else length (pages u).rows) })
