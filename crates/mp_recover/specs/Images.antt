-- What images of nine disks hold for recovery: the mtrs to redo, the commits among them, and the rows that these leave.
use Rattle.std.specs.Prelude.{◌≡◌, ℕ, ◌<◌, List, [], ◌∷◌, take, None}
use Rattle.std.specs.List.{flat_map, AllByRecursion}
use Rattle.mp_model.specs.declared.key_value.KeyValue.{KeyValue}
use Rattle.mp_cells.specs.declared.records.Mtr.{Mtr}
use Rattle.mp_cells.specs.Trees.{rows_in}
use Rattle.mp_store.specs.StoreFiles.{header_in_force}
use Rattle.mp_store.specs.CleanStores.{stored_pages, IsCleanStore}
use Rattle.mp_log.specs.Readers.{log_mtrs}
use Rattle.mp_files.specs.Nine.{Image, log_of}
use Rattle.mp_histories.specs.Chains.{row_of_key}
use Rattle.mp_recover.specs.PageRecords.{by_log_place, page_list, redone_all}
use Rattle.mp_recover.specs.KeptCommits.{kept_commits, present, folded_in}
use Rattle.mp_recover.specs.Redoing.{mtrs_above}
use Rattle.mp_recover.specs.Standing.{IsRecoverable}

-- the eight primaries
abbrev pub all_primaries : List ℕ
all_primaries = 1 ∷ 2 ∷ 3 ∷ 4 ∷ 5 ∷ 6 ∷ 7 ∷ 8 ∷ []

-- the base LLSN of an image: its mtrs at or below it are in its pages
abbrev pub base_llsn : Image → ℕ
base_llsn image = (header_in_force image.store).llsn

-- the mtrs of all logs, in the order of recovery
abbrev pub all_logged : Image → List Mtr
all_logged image = by_log_place (flat_map (λ n. (log_mtrs n (log_of n image)).0) all_primaries)

-- those above the base LLSN
abbrev pub logged_above : Image → List Mtr
logged_above image = mtrs_above (base_llsn image) (all_logged image)

-- each log is of its grammar
abbrev pub LogsAreSound : Image → Type 0
LogsAreSound image = AllByRecursion (λ n. (log_mtrs n (log_of n image)).1 ≡ None) all_primaries

-- a clean store, logs of their grammar, and no mtr above the base LLSN
pub record CleanImage (image : Image) : Type 0 where
  pub store : IsCleanStore image.store
  pub logs : LogsAreSound image
  pub none : logged_above image ≡ []

-- a clean store, logs of their grammar, and mtrs that can be redone over the stored pages and leave a tree whose chains
-- stand for the commits among them
pub record SoundImage (image : Image) : Type 0 where
  pub store : IsCleanStore image.store
  pub logs : LogsAreSound image
  pub recoverable : IsRecoverable (base_llsn image) (row_of_key (stored_pages image.store)) (stored_pages image.store) (logged_above image)

-- a store is the one that was opened, but that each page may have some of the records which the image's mtrs give it
pub record IsOpenedStore (opened : List ℕ) (image : Image) : Type 0 where
  pub header : header_in_force image.store ≡ header_in_force opened
  pub pages : (n : ℕ) → n < 4096 → (m : ℕ)
      × (stored_pages image.store n ≡ redone_all (take m (page_list n (logged_above image))) (stored_pages opened n))

-- the rows of an image: the stored ones with the commits of its mtrs folded in
abbrev pub rows_of_image : Image → List KeyValue
rows_of_image image = folded_in (present (rows_in (stored_pages image.store))) (kept_commits (logged_above image))
