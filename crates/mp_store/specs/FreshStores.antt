-- A fresh store.
use Rattle.std.specs.Prelude.{◌≡◌, ℕ, ◌^◌, ◌≤◌, false, List, [], ◌∷◌, length, replicate, None}
use Rattle.mp_outside.specs.Disks.{written}
use Rattle.mp_cells.specs.PageView.{PageView, blank_page, meta_page, leaf_page}
use Rattle.mp_store.specs.declared.headers.Header.{Header}
use Rattle.mp_store.specs.declared.sides.Side.{Side}
use Rattle.mp_store.specs.Layout.{store_length, is_open, header_side}
use Rattle.mp_store.specs.HeaderSides.{header_body}
use Rattle.mp_store.specs.PageSides.{page_body}
use Rattle.mp_store.specs.OpenStores.{NoLater}
use Rattle.mp_store.specs.StoreFiles.{header_in_force, page_in_force, store_fault}

-- so many zeros
unfoldable pub zeros : ℕ → List ℕ
zeros n = replicate n 0

-- the header of a fresh store
abbrev pub fresh_header : Header
fresh_header = record { generation = 1; base = 0; llsn = 0; version = 0 }

-- page 0, which has pages 0 and 1 taken
abbrev pub fresh_meta : PageView
fresh_meta = meta_page 0 (3 ∷ zeros 511)

-- page 1, a leaf of all keys without rows
abbrev pub fresh_root : PageView
fresh_root = leaf_page 0 0 (2 ^ 32) []

-- zeros with the two pages and the header in them, behind closed gates
unfoldable pub closed_file : List ℕ
closed_file = written 1 (header_body fresh_header) (written 2209 (page_body 1 fresh_root) (written 129 (page_body 1 fresh_meta) (zeros store_length)))

-- the same with the pages' gates open
unfoldable pub pages_file : List ℕ
pages_file = written 2208 (165 ∷ []) (written 128 (165 ∷ []) closed_file)

-- the same with the header's gate open
unfoldable pub fresh_file : List ℕ
fresh_file = written 0 (165 ∷ []) pages_file

-- a store file of the grammar that shows this header, these two pages, and all others blank, and has no open side of a later generation
pub record IsFresh (file : List ℕ) : Type 0 where
  pub sound : store_fault file ≡ None
  pub long : length file ≡ store_length
  pub header : header_in_force file ≡ fresh_header
  pub map : page_in_force 1 0 file ≡ fresh_meta
  pub root : page_in_force 1 1 file ≡ fresh_root
  pub blank : (number : ℕ) → 2 ≤ number → page_in_force 1 number file ≡ blank_page 0
  pub later : NoLater 1 file

-- neither side of the header is open, so that the file is no store
abbrev pub NoHeader : List ℕ → Type 0
NoHeader file = (side : Side) → is_open (header_side side file) ≡ false

-- a file of a store's length without an open header, and so is whatever a crash leaves
pub record NoneOpen (seen : List ℕ) (image : List ℕ → Type 0) : Type 0 where
  pub long : length seen ≡ store_length
  pub none : NoHeader seen
  pub images : (c : List ℕ) → image c → NoHeader c × (length c ≡ store_length)
