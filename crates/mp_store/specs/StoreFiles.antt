-- Store files: what one shows, and the first fault of one that is off the grammar.
use Rattle.std.specs.Prelude.{ℕ, zero, suc, ◌^◌, ◌==◌, ◌&&◌, ◌||◌, nat_le, Bool, List, [], ◌∷◌, length, Option, None}
use Rattle.mp_cells.specs.declared.kinds.Kind.TheVariants.{Meta, Leaf, Inner}
use Rattle.mp_cells.specs.PageView.{PageView, is_of, bit_of}
use Rattle.mp_store.specs.declared.headers.Header.{Header}
use Rattle.mp_store.specs.declared.sides.Side.{Side}
use Rattle.mp_store.specs.declared.sides.Side.TheVariants.{First, Second}
use Rattle.mp_store.specs.Checks.{unless, first_of}
use Rattle.mp_store.specs.Layout.{store_length, page_place, header_side, page_side}
use Rattle.mp_store.specs.HeaderSides.{header_of, headers_fault, header_in}
use Rattle.mp_store.specs.PageSides.{side_in_force, shown_page, sides_fault, in_force_fault}

-- the side of the header in force, and the header
abbrev pub header_side_in_force : List ℕ → Side
header_side_in_force file = header_in (header_side First file) (header_side Second file)

unfoldable pub header_in_force : List ℕ → Header
header_in_force file = header_of (header_side (header_side_in_force file) file)

-- the side of a page that is in force in a store of a generation, and the page
abbrev pub page_side_in_force : ℕ → ℕ → List ℕ → Option Side
page_side_in_force generation number file = side_in_force generation (page_side number First file) (page_side number Second file)

unfoldable pub page_in_force : ℕ → ℕ → List ℕ → PageView
page_in_force generation number file = shown_page (page_side_in_force generation number file) (page_side number First file) (page_side number Second file)

-- the first fault of a page's home
abbrev pub home_fault : ℕ → ℕ → List ℕ → Option ℕ
home_fault generation number file = sides_fault generation (page_place number First) (page_side number First file) (page_side number Second file)

-- the first fault of the side in force of a page's home
abbrev pub page_fault_in_force : ℕ → ℕ → List ℕ → Option ℕ
page_fault_in_force generation number file =
    in_force_fault (page_side_in_force generation number file) (page_place number First) (page_side number First file) (page_side number Second file)

-- the first fault of the homes of the pages below a number
unfoldable pub homes_fault : ℕ → ℕ → List ℕ → Option ℕ
homes_fault generation zero file = None
homes_fault generation (suc number) file = first_of (homes_fault generation number file ∷ home_fault generation number file ∷ [])

-- page 0 is a meta page that has pages 0 and 1 taken
abbrev pub is_map : PageView → Bool
is_map page = is_of Meta page && bit_of page.bits 0 == 1 && bit_of page.bits 1 == 1

-- the first fault of page 0: of its side in force, or that it is no such page
abbrev pub map_fault : ℕ → List ℕ → Option ℕ
map_fault generation file = first_of (page_fault_in_force generation 0 file ∷ unless (is_map (page_in_force generation 0 file)) 128 ∷ [])

-- page 1 is a leaf or an inner page of all keys
abbrev pub is_root : PageView → Bool
is_root page = (is_of Leaf page || is_of Inner page) && page.low == 0 && page.high == 2 ^ 32

-- the first fault of pages 0 and 1
unfoldable pub roots_fault : ℕ → List ℕ → Option ℕ
roots_fault generation file = first_of (
    unless (is_map (page_in_force generation 0 file)) 128
    ∷ unless (is_root (page_in_force generation 1 file)) 2208
    ∷ [])

-- the first fault of a file's length
abbrev pub length_fault : ℕ → Option ℕ
length_fault size = first_of (unless (nat_le 128 size) 0 ∷ unless (nat_le store_length size) size ∷ [])

-- the first fault of a store file: in its length, its header, its homes in turn, or pages 0 and 1
unfoldable pub store_fault : List ℕ → Option ℕ
store_fault file = first_of (
    length_fault (length file)
    ∷ headers_fault (header_side First file) (header_side Second file)
    ∷ homes_fault (header_in_force file).generation 4096 file
    ∷ roots_fault (header_in_force file).generation file
    ∷ [])
