-- The 1,024 bytes of a page: which ones a page has, which page some bytes are read as, and their first fault.
use Rattle.std.specs.Prelude.{ℕ, zero, suc, ◌+◌, ◌*◌, ◌^◌, ◌==◌, ◌&&◌, nat_le, nat_lt, if◌then◌else◌, Bool, true, false, List, [], ◌∷◌, ◌++◌, take, drop, replicate, slice_index, Option, Some, None}
use Rattle.std.specs.List.{flat_map}
use Rattle.byteorder.specs.Endian.{little_bytes}
use Rattle.mp_model.specs.Padded.{padded}
use Rattle.mp_cells.specs.declared.kinds.Kind.{Kind}
use Rattle.mp_cells.specs.declared.kinds.Kind.TheVariants.{Blank, Meta, Leaf, Inner, Undo}
use Rattle.mp_cells.specs.declared.faults.Fault.{Fault}
use Rattle.mp_cells.specs.declared.faults.Fault.TheVariants as faults
use Rattle.mp_cells.specs.declared.faults.PageFault.{PageFault}
use Rattle.mp_cells.specs.declared.rows.Row.{Row}
use Rattle.mp_cells.specs.declared.children.Child.{Child}
use Rattle.mp_cells.specs.Numbers.{number_at}
use Rattle.mp_cells.specs.RowCell.{row_cell, row_of, is_row_cell}
use Rattle.mp_cells.specs.ChildCell.{child_cell, child_of, is_child_cell}
use Rattle.mp_cells.specs.PageView.{PageView, blank_page, meta_page, leaf_page, inner_page, undo_page, are_fences, kind_number, count_of, bits_set}

-- byte 1 of a page
abbrev pub page_format : ℕ
page_format = 1

-- bytes 0..32: the kind, the format, the count, four zeros, the LLSN and the fences
unfoldable pub header_bytes : ℕ → ℕ → ℕ → ℕ → ℕ → List ℕ
header_bytes kind count llsn low high = kind ∷ page_format ∷ (little_bytes 2 count ++ (replicate 4 0 ++ (little_bytes 8 llsn ++ (little_bytes 8 low ++ little_bytes 8 high))))

abbrev pub page_header : PageView → List ℕ
page_header page = header_bytes (kind_number page.kind) (count_of page) page.llsn page.low page.high

-- the cells or the bits of a page
abbrev pub page_cells : PageView → List ℕ
page_cells page = by_kind page.kind
  where
    by_kind : Kind → List ℕ
    by_kind Blank = []
    by_kind Meta = page.bits
    by_kind Leaf = flat_map row_cell page.rows
    by_kind Inner = flat_map child_cell page.children
    by_kind Undo = flat_map row_cell page.rows

-- the bytes of a page: its header, its cells, and zeros
unfoldable pub spelling : PageView → List ℕ
spelling page = page_header page ++ padded 992 0 (page_cells page)

-- the kind with a number
abbrev pub kind_numbered : ℕ → Kind
kind_numbered zero = Blank
kind_numbered (suc zero) = Meta
kind_numbered (suc (suc zero)) = Leaf
kind_numbered (suc (suc (suc zero))) = Inner
kind_numbered (suc (suc (suc (suc n)))) = Undo

-- so many cells, each so wide, read one after another
abbrev pub cells_of : {X : Type 0} → (List ℕ → X) → ℕ → ℕ → List ℕ → List X
cells_of of width zero bytes = []
cells_of of width (suc n) bytes = of bytes ∷ cells_of of width n (drop width bytes)

abbrev pub rows_of : ℕ → List ℕ → List Row
rows_of n bytes = cells_of row_of 64 n bytes

abbrev pub children_of : ℕ → List ℕ → List Child
children_of n bytes = cells_of child_of 8 n bytes

-- the page of a kind, with this count, LLSN, fences and body
abbrev pub read_as : Kind → ℕ → ℕ → ℕ → ℕ → List ℕ → PageView
read_as Blank count llsn low high body = blank_page llsn
read_as Meta count llsn low high body = meta_page llsn (take 512 body)
read_as Leaf count llsn low high body = leaf_page llsn low high (rows_of count body)
read_as Inner count llsn low high body = inner_page llsn low high (children_of count body)
read_as Undo count llsn low high body = undo_page llsn (rows_of count body)

-- the page that bytes are read as, whatever they are
unfoldable pub page_of : List ℕ → PageView
page_of bytes = read_as (kind_numbered (slice_index bytes 0)) (number_at 2 2 bytes) (number_at 8 8 bytes) (number_at 16 8 bytes) (number_at 24 8 bytes) (drop 32 bytes)

-- a fault at an offset, unless a test holds
abbrev pub unless : Bool → Fault → ℕ → Option PageFault
unless true fault offset = None
unless false fault offset = Some (record { fault = fault; offset = offset })

-- what the first check that finds a fault finds
abbrev pub first_of : List (Option PageFault) → Option PageFault
first_of [] = None
first_of (None ∷ checks) = first_of checks
first_of (Some fault ∷ checks) = Some fault

-- the first of these bytes, which lie from a place on, that isn't zero
abbrev pub padding_fault : ℕ → List ℕ → Option PageFault
padding_fault place [] = None
padding_fault place (byte ∷ bytes) = if byte == 0 then padding_fault (place + 1) bytes else Some (record { fault = faults.Padding; offset = place })

-- the counts that pages of a kind have; the meta page's count is that of its set bits
abbrev pub is_page_count : Kind → ℕ → List ℕ → Bool
is_page_count Blank count body = count == 0
is_page_count Meta count body = count == bits_set (take 512 body)
is_page_count Leaf count body = nat_le count 15
is_page_count Inner count body = nat_le 1 count && nat_le count 124
is_page_count Undo count body = nat_le count 15

-- the fences that pages of a kind have
abbrev pub has_fences : Kind → ℕ → ℕ → Bool
has_fences Blank low high = low == 0 && high == 0
has_fences Meta low high = low == 0 && high == 0
has_fences Leaf low high = are_fences low high
has_fences Inner low high = are_fences low high
has_fences Undo low high = low == 0 && high == 0

-- the key of a row or the low key of a child: the first four bytes of its cell
abbrev pub cell_key : List ℕ → ℕ
cell_key cell = number_at 0 4 cell

-- the first fault of a cell at a place: it isn't one, its key is below `least`, or its key is outside the fences
abbrev pub cell_fault : ℕ → ℕ → Bool → ℕ → ℕ → ℕ → Option PageFault
cell_fault low high is_cell place least key = first_of (
    unless is_cell faults.Cell place
    ∷ unless (nat_le least key) faults.Order place
    ∷ unless (nat_le low key && nat_lt key high) faults.Fence place
    ∷ [])

-- the first fault of so many cells with rising keys, each so wide, which lie from a place on
abbrev pub keyed_fault : (List ℕ → Bool) → ℕ → ℕ → ℕ → ℕ → ℕ → ℕ → List ℕ → Option PageFault
keyed_fault is_cell width low high zero place least bytes = None
keyed_fault is_cell width low high (suc n) place least bytes = first_of (
    cell_fault low high (is_cell bytes) place least (cell_key bytes)
    ∷ keyed_fault is_cell width low high n (place + width) (cell_key bytes + 1) (drop width bytes)
    ∷ [])

-- the first fault of so many row cells of an undo page, in any order, which lie from a place on
abbrev pub undo_fault : ℕ → ℕ → List ℕ → Option PageFault
undo_fault zero place bytes = None
undo_fault (suc n) place bytes = first_of (unless (is_row_cell bytes) faults.Cell place ∷ undo_fault n (place + 64) (drop 64 bytes) ∷ [])

-- the first fault of so many child cells of an inner page, of which there is one: the first child has the low fence
abbrev pub inner_fault : ℕ → ℕ → ℕ → List ℕ → Option PageFault
inner_fault low high count body = first_of (
    unless (is_child_cell body) faults.Cell 32
    ∷ unless (cell_key body == low) faults.Fence 32
    ∷ keyed_fault is_child_cell 8 low high count 32 0 body
    ∷ [])

-- the first fault of the cells of a page, by its kind
abbrev pub cells_fault : Kind → ℕ → ℕ → ℕ → List ℕ → Option PageFault
cells_fault Blank count low high body = None
cells_fault Meta count low high body = None
cells_fault Leaf count low high body = keyed_fault is_row_cell 64 low high count 32 0 body
cells_fault Inner count low high body = inner_fault low high count body
cells_fault Undo count low high body = undo_fault count 32 body

-- how many bytes of the body the cells or bits of a page take
abbrev pub cells_length : Kind → ℕ → ℕ
cells_length Blank count = 0
cells_length Meta count = 512
cells_length Leaf count = 64 * count
cells_length Inner count = 8 * count
cells_length Undo count = 64 * count

-- the first fault of a header
unfoldable pub header_fault : List ℕ → Option PageFault
header_fault bytes = let kind = kind_numbered (slice_index bytes 0) in first_of (
    unless (nat_le (slice_index bytes 0) 4) faults.Kind 0
    ∷ unless (slice_index bytes 1 == page_format) faults.Kind 1
    ∷ unless (is_page_count kind (number_at 2 2 bytes) (drop 32 bytes)) faults.Count 2
    ∷ padding_fault 4 (take 4 (drop 4 bytes))
    ∷ unless (nat_lt (number_at 8 8 bytes) (2 ^ 62)) faults.Fence 8
    ∷ unless (has_fences kind (number_at 16 8 bytes) (number_at 24 8 bytes)) faults.Fence 16
    ∷ [])

-- the first fault of a body, where the header has none
unfoldable pub body_fault : List ℕ → Option PageFault
body_fault bytes =
    let kind = kind_numbered (slice_index bytes 0) in
    let end = 32 + cells_length kind (number_at 2 2 bytes) in
    first_of (
    cells_fault kind (number_at 2 2 bytes) (number_at 16 8 bytes) (number_at 24 8 bytes) (drop 32 bytes)
    ∷ padding_fault end (drop end bytes)
    ∷ [])

-- the first fault of the bytes of a page
unfoldable pub page_bytes_fault : List ℕ → Option PageFault
page_bytes_fault bytes = first_of (header_fault bytes ∷ body_fault bytes ∷ [])
