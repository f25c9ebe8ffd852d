-- Clean stores: no transaction and no redo is left in them.
use Rattle.std.specs.Prelude.{◌≡◌, ℕ, nat_lt, if◌then◌else◌, List, None}
use Rattle.mp_cells.specs.PageView.{blank_page}
use Rattle.mp_cells.specs.Trees.{PageMap, IsClean}
use Rattle.mp_store.specs.StoreFiles.{header_in_force, page_in_force, store_fault}

-- the map of the pages of a store file, as its own generation shows them
abbrev pub stored_pages : List ℕ → PageMap
stored_pages file n = if nat_lt n 4096 then page_in_force (header_in_force file).generation n file else blank_page 0

-- a store file without a fault, whose pages are a clean tree by the LLSN of its header
pub record IsCleanStore (file : List ℕ) : Type 0 where
  pub sound : store_fault file ≡ None
  pub clean : IsClean (header_in_force file).llsn (stored_pages file)
