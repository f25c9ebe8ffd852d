-- What a write's plan is made of, and what it is.
use Rattle.std.specs.Prelude.{◌≡◌, ℕ, zero, suc, ◌+◌, ◌-◌, ◌<◌, ◌≤◌, ◌==◌, nat_lt, List, [], ◌∷◌, length, Option, Some, None, if◌then◌else◌}
use Rattle.mp_cells.specs.declared.kinds.Kind.TheVariants.{Leaf, Inner, Undo}
use Rattle.mp_cells.specs.declared.rows.Link.{Link}
use Rattle.mp_cells.specs.PageView.{PageView, IsPage, bit_of}
use Rattle.mp_cells.specs.Trees.{PageMap}
use Rattle.mp_plans.specs.Growth as grows
use Rattle.mp_plans.specs.Growth.{growth_of, pages_needed, write_plan, new_pages}
use Rattle.mp_tree.specs.declared.search.Stop.{Stop}
use Rattle.mp_tree.specs.Searches.{stop_on}
use Rattle.mp_tree.specs.declared.growth.Growth.{Growth}
use Rattle.mp_tree.specs.declared.growth.Reading.{Reading}
use Rattle.mp_tree.specs.declared.growth.Growth.TheVariants.{Stays, NewRoot, Leaf as UnderParent, Inner as WithParent, Higher}

-- ---- how the tree grows

abbrev pub shape_of : Growth → grows.Growth
shape_of Stays = grows.stays
shape_of NewRoot = grows.new_root
shape_of (UnderParent parent) = grows.leaf parent
shape_of (WithParent stop) = grows.inner stop.number
shape_of (Higher page) = grows.higher

-- a full leaf under this parent
abbrev pub growth_under : Stop → Growth
growth_under parent = if nat_lt (length parent.page.children) 124 then UnderParent parent.number else (if parent.number == 1 then Higher parent.page else WithParent parent)

-- a map has the pages that are kept with it
abbrev pub HasPages : PageMap → Growth → Type 0
HasPages pages Stays = Unit {0}
HasPages pages NewRoot = Unit {0}
HasPages pages (UnderParent parent) = Unit {0}
HasPages pages (WithParent stop) = pages stop.number ≡ stop.page
HasPages pages (Higher page) = pages 1 ≡ page

-- the pages to be split are full
pub record IsFullInner (inner : PageView) : Type 0 where
  pub page : IsPage inner
  pub kind : inner.kind ≡ Inner
  pub full : length inner.children ≡ 124

abbrev pub CanSplit : PageView → Growth → Type 0
CanSplit leaf Stays = Unit {0}
CanSplit leaf NewRoot = length leaf.rows ≡ 15
CanSplit leaf (UnderParent parent) = length leaf.rows ≡ 15
CanSplit leaf (WithParent stop) = (length leaf.rows ≡ 15) × IsFullInner stop.page
CanSplit leaf (Higher page) = (length leaf.rows ≡ 15) × IsFullInner page

-- ---- the place of the undo record

-- the current undo page, where there is one, is one
abbrev pub HasUndo : PageMap → Option ℕ → Type 0
HasUndo pages None = Unit {0}
HasUndo pages (Some u) = (pages u).kind ≡ Undo

-- the place in it, or none where a fresh one is needed
abbrev pub undo_place : PageMap → Option ℕ → Option Link
undo_place pages None = None
undo_place pages (Some u) = if nat_lt (length (pages u).rows) 15 then Some (record { page = u; index = length (pages u).rows }) else None

-- ---- what a write reads of the tree

pub record IsReading (given : PageMap) (height key : ℕ) (undo_page : Option ℕ) (reading : Reading) : Type 0 where
  pub leaf : reading.leaf ≡ stop_on given height key
  pub growth : shape_of reading.growth ≡ growth_of given height key
  pub place : reading.place ≡ undo_place given undo_page
  pub pages : HasPages given reading.growth

pub record IsSound (reading : Reading) : Type 0 where
  pub range : reading.leaf.number < 4096
  pub page : IsPage reading.leaf.page
  pub kind : reading.leaf.page.kind ≡ Leaf
  pub split : CanSplit reading.leaf.page reading.growth

-- ---- pages that are clear

-- among so many pages from one on, those whose bits are clear
unfoldable pub clear_from : ℕ → ℕ → List ℕ → List ℕ
clear_from zero from bits = []
clear_from (suc count) from bits = if bit_of bits from == 0 then from ∷ clear_from count (from + 1) bits else clear_from count (from + 1) bits

-- all of them, in order
abbrev pub clear_pages : PageView → List ℕ
clear_pages meta = clear_from 4096 0 meta.bits

-- the lowest page from one on whose bit is clear, or 4,096
pub record IsNextClear (from n : ℕ) (bits : List ℕ) : Type 0 where
  pub least : from ≤ n
  pub most : n ≤ 4096
  pub clear : n < 4096 → bit_of bits n ≡ 0
  pub between : clear_from (4096 - from) from bits ≡ clear_from (4096 - n) n bits
