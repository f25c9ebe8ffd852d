-- What loading reads of the store, and what rolling back makes of it.
use Rattle.std.specs.Prelude.{◌≡◌, ℕ, List, length, Some, None, Result, Ok, Err}
use Rattle.mp_cells.specs.PageMaps.{page_at}
use Rattle.mp_cells.specs.Trees.{IsTree, tree_rows}
use Rattle.mp_store.specs.StoreFiles.{header_in_force, store_fault}
use Rattle.mp_store.specs.CleanStores.{stored_pages}
use Rattle.mp_recover.specs.declared.found.Found.{Found}
use Rattle.mp_recover.specs.declared.loading.Loaded.{Loaded}
use Rattle.mp_recover.specs.declared.loading.Stored.{Stored}
use Rattle.mp_recover.specs.declared.refusals.RecoverRefusal.{RecoverRefusal}
use Rattle.mp_recover.specs.declared.refusals.RecoverRefusal.TheVariants as recover
use Rattle.mp_recover.specs.KeptCommits.{present}
use Rattle.mp_recover.specs.Settling.{trx_ids, pages_settled, undone_below}

-- the header and the pages of a store file without a fault
pub record IsStored (file : List ℕ) (stored : Stored) : Type 0 where
  pub sound : store_fault file ≡ None
  pub header_is : stored.header ≡ header_in_force file
  pub pages : page_at stored.pages.items ≡ stored_pages file

-- reading a store file: its pages, or its first fault
abbrev pub StoredFinds : List ℕ → Result Stored RecoverRefusal → Type 0
StoredFinds file (Ok stored) = IsStored file stored
StoredFinds file (Err (recover.Store place)) = store_fault file ≡ Some place
StoredFinds file (Err recover.StoreDisk) = Unit {0}
StoredFinds file (Err (recover.LogDisk primary)) = Unit {0}
StoredFinds file (Err recover.Memory) = Unit {0}
StoredFinds file (Err _) = ⊥

-- pages rolled back, by the commits that were found
pub record RollsBack (stored : Stored) (found : Found) (loaded : Loaded) : Type 0 where
  pub header_is : loaded.header ≡ stored.header
  pub found_is : loaded.found ≡ found
  pub count : length loaded.pages.items ≡ 4096
  pub pages : page_at loaded.pages.items ≡ pages_settled (trx_ids found.ids.items) (page_at stored.pages.items)
  pub undone : loaded.undone ≡ undone_below 4096 (trx_ids found.ids.items) (page_at stored.pages.items)
  pub rows : (height : ℕ) → IsTree (page_at loaded.pages.items) height → loaded.rows.items ≡ present (tree_rows (page_at loaded.pages.items) height)
