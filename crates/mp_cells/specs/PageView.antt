-- A page as data: what it is, and which ones there may be.
use Rattle.std.specs.Prelude.{◌≡◌, ℕ, ◌<◌, ◌≤◌, ◌^◌, ◌/◌, ◌%◌, ◌==◌, ◌&&◌, Bool, false, nat_lt, nat_le, List, [], ◌∷◌, length, slice_index, slice_set, bit_or, bit_and, sum_by, count_ones, IsTrue}
use Rattle.std.specs.Int.{bit_at, bit_not, w8}
use Rattle.std.specs.List.{AllByRecursion}
use Rattle.mp_cells.specs.declared.kinds.Kind.{Kind}
use Rattle.mp_cells.specs.declared.kinds.Kind.TheVariants.{Blank, Meta, Leaf, Inner, Undo}
use Rattle.mp_cells.specs.declared.rows.Row.{Row}
use Rattle.mp_cells.specs.declared.children.Child.{Child}
use Rattle.mp_cells.specs.Keys.{rises}
use Rattle.mp_cells.specs.Rows.{IsRow}
use Rattle.mp_cells.specs.Children.{IsChild}

-- a page: its kind and LLSN, its fences, the rows of a leaf or an undo page, the children of an inner page, and the 512
-- bytes of the meta page's bits
pub record PageView : Type 0 where
  pub kind : Kind
  pub llsn : ℕ
  pub low : ℕ
  pub high : ℕ
  pub rows : List Row
  pub children : List Child
  pub bits : List ℕ

-- the pages of each kind, of which all else is empty
abbrev pub blank_page : ℕ → PageView
blank_page llsn = record { kind = Blank; llsn = llsn; low = 0; high = 0; rows = []; children = []; bits = [] }

abbrev pub meta_page : ℕ → List ℕ → PageView
meta_page llsn bits = record { kind = Meta; llsn = llsn; low = 0; high = 0; rows = []; children = []; bits = bits }

abbrev pub leaf_page : ℕ → ℕ → ℕ → List Row → PageView
leaf_page llsn low high rows = record { kind = Leaf; llsn = llsn; low = low; high = high; rows = rows; children = []; bits = [] }

abbrev pub inner_page : ℕ → ℕ → ℕ → List Child → PageView
inner_page llsn low high children = record { kind = Inner; llsn = llsn; low = low; high = high; rows = []; children = children; bits = [] }

abbrev pub undo_page : ℕ → List Row → PageView
undo_page llsn rows = record { kind = Undo; llsn = llsn; low = 0; high = 0; rows = rows; children = []; bits = [] }

-- fences of a page of the tree
abbrev pub are_fences : ℕ → ℕ → Bool
are_fences low high = nat_lt low high && nat_le high (2 ^ 32)

-- these rows form a leaf with these fences
abbrev pub is_leaf : ℕ → ℕ → List Row → Bool
is_leaf low high rows = are_fences low high && nat_le (length rows) 15 && rises (λ row. row.key) low high rows

-- there is a first child, and it has this low key
abbrev pub begins_at : ℕ → List Child → Bool
begins_at low [] = false
begins_at low (child ∷ children) = child.low == low

-- these children form an inner page with these fences
abbrev pub is_inner : ℕ → ℕ → List Child → Bool
is_inner low high children = are_fences low high && begins_at low children && nat_le (length children) 124 && rises (λ child. child.low) low high children

-- 512 bytes
pub record AreBits (bits : List ℕ) : Type 0 where
  pub count : length bits ≡ 512
  pub bytes : (i : ℕ) → slice_index bits i < 256

-- what the rest of a page is, by its kind
abbrev pub HasContent : Kind → PageView → Type 0
HasContent Blank page = page ≡ blank_page page.llsn
HasContent Meta page = (page ≡ meta_page page.llsn page.bits) × AreBits page.bits
HasContent Leaf page = (page ≡ leaf_page page.llsn page.low page.high page.rows) × IsTrue (is_leaf page.low page.high page.rows) × AllByRecursion IsRow page.rows
HasContent Inner page = (page ≡ inner_page page.llsn page.low page.high page.children) × IsTrue (is_inner page.low page.high page.children) × AllByRecursion IsChild page.children
HasContent Undo page = (page ≡ undo_page page.llsn page.rows) × (length page.rows ≤ 15) × AllByRecursion IsRow page.rows

-- a page that there may be
pub record IsPage (page : PageView) : Type 0 where
  pub llsn : page.llsn < 2 ^ 62
  pub content : HasContent page.kind page

-- two pages differ in nothing but their LLSNs
abbrev pub SameContent : PageView → PageView → Type 0
SameContent page other = record page { llsn = other.llsn } ≡ other

-- the bit of a page: 1 where it is taken
abbrev pub bit_of : List ℕ → ℕ → ℕ
bit_of bits page = bit_at (slice_index bits (page / 8)) (page % 8)

-- the bits with one set
abbrev pub with_bit : List ℕ → ℕ → List ℕ
with_bit bits page = slice_set bits (page / 8) (bit_or (slice_index bits (page / 8)) (2 ^ (page % 8)))

-- the bits with one cleared
abbrev pub without_bit : List ℕ → ℕ → List ℕ
without_bit bits page = slice_set bits (page / 8) (bit_and (slice_index bits (page / 8)) (bit_not w8 (2 ^ (page % 8))))

-- how many bits are set
abbrev pub bits_set : List ℕ → ℕ
bits_set bits = sum_by count_ones bits

-- the number of a kind
abbrev pub kind_number : Kind → ℕ
kind_number Blank = 0
kind_number Meta = 1
kind_number Leaf = 2
kind_number Inner = 3
kind_number Undo = 4

-- the page is of this kind
abbrev pub is_of : Kind → PageView → Bool
is_of kind page = kind_number page.kind == kind_number kind

-- the count of a page: its cells, or its bits that are set
abbrev pub count_of : PageView → ℕ
count_of page = by_kind page.kind
  where
    by_kind : Kind → ℕ
    by_kind Blank = 0
    by_kind Meta = bits_set page.bits
    by_kind Leaf = length page.rows
    by_kind Inner = length page.children
    by_kind Undo = length page.rows
