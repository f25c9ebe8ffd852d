-- What each page of a clean map is, by its number and kind.
use Rattle.std.specs.Prelude.{ℕ, zero, suc, ◌-◌, ◌==◌, ◌&&◌, ◌||◌, not, nat_le, if◌then◌else◌, Bool, true, false, List, [], ◌∷◌, length, is_none}
use Rattle.std.specs.List.{list_all}
use Rattle.mp_cells.specs.declared.kinds.Kind.{Kind}
use Rattle.mp_cells.specs.declared.kinds.Kind.TheVariants.{Blank, Meta, Leaf, Inner, Undo}
use Rattle.mp_cells.specs.declared.rows.Row.{Row}
use Rattle.mp_cells.specs.declared.children.Child.{Child}
use Rattle.mp_cells.specs.PageView.{bit_of, is_of}
use Rattle.mp_cells.specs.Trees.{PageMap, root, low_of, leaf_at}

-- the kind of the pages that stand so many levels above the leaves
abbrev pub kind_above : ℕ → Kind
kind_above zero = Leaf
kind_above (suc height) = Inner

-- a child's page is of the kind, and its fences are the child's low key and a bound
abbrev pub fits_child : PageMap → Kind → ℕ → Child → Bool
fits_child pages kind high child = is_of kind (pages child.page) && (pages child.page).low == child.low && (pages child.page).high == high

-- so are the pages of all children: each ends where the next begins, and the last at the bound
abbrev pub fit_children : PageMap → Kind → ℕ → List Child → Bool
fit_children pages kind high [] = true
fit_children pages kind high (child ∷ children) = fits_child pages kind (low_of children high) child && fit_children pages kind high children

-- a page is the root, or a search for its low fence comes to it so many levels below the root
abbrev pub is_reached : PageMap → ℕ → ℕ → Bool
is_reached pages depth n = n == 1 || (leaf_at pages depth (pages n).low root).page == n

-- the least counts of rows and of children
abbrev pub least_rows : ℕ → ℕ
least_rows n = if n == 1 then 0 else 7

abbrev pub least_children : ℕ → ℕ
least_children n = if n == 1 then 2 else 62

-- a row without a writer
abbrev pub is_unwritten : Row → Bool
is_unwritten row = is_none row.writer

-- a leaf has its place below the root, enough rows, and none with a writer
abbrev pub is_clean_leaf : ℕ → PageMap → ℕ → Bool
is_clean_leaf height pages n = is_reached pages height n && nat_le (least_rows n) (length (pages n).rows)
    && list_all is_unwritten (pages n).rows

-- an inner page has its place and enough children, which fit: those of the root stand so many levels above the leaves, and
-- those of other pages are leaves
abbrev pub is_clean_inner : ℕ → PageMap → ℕ → Bool
is_clean_inner under pages n = is_reached pages under n && nat_le (least_children n) (length (pages n).children)
    && fit_children pages (kind_above (if n == 1 then under else 0)) (pages n).high (pages n).children

-- what is tested of a page of each kind, in a map of this height
abbrev pub is_in_place : Kind → ℕ → PageMap → ℕ → Bool
is_in_place Blank height pages n = true
is_in_place Meta height pages n = n == 0
is_in_place Leaf height pages n = is_clean_leaf height pages n
is_in_place Inner height pages n = is_clean_inner (height - 1) pages n
is_in_place Undo height pages n = false

-- the bit of a page is set, or the page is blank, and not both
abbrev pub has_own_bit : PageMap → ℕ → Bool
has_own_bit pages n = if is_of Blank (pages n) then not (bit_of (pages 0).bits n == 1) else bit_of (pages 0).bits n == 1

-- all that is tested of one page
abbrev pub is_clean_page : ℕ → ℕ → PageMap → ℕ → Bool
is_clean_page base height pages n = is_in_place (pages n).kind height pages n && nat_le (pages n).llsn base && has_own_bit pages n
