-- What recovery answers of nine disks, and what they are after it.
use Rattle.std.specs.Prelude.{◌≡◌, ◌≢◌, ℕ, ◌+◌, ◌-◌, ◌^◌, ◌<◌, List, [], length, Option, Some, None, Result, Ok, Err}
use Rattle.std.specs.List.{AllByRecursion}
use Rattle.mp_cells.specs.Mtrs.{IsMtr}
use Rattle.mp_cells.specs.PageMaps.{page_at}
use Rattle.mp_cells.specs.Trees.{PageMap, IsTree, tree_rows}
use Rattle.mp_files.specs.Nine.{Image, log_of}
use Rattle.mp_store.specs.HeaderSides.{IsHeader}
use Rattle.mp_store.specs.StoreFiles.{header_in_force, store_fault}
use Rattle.mp_store.specs.CleanStores.{stored_pages}
use Rattle.mp_checkpoint.specs.Saving.{IsSaved}
use Rattle.mp_recover.specs.declared.loading.Loaded.{Loaded}
use Rattle.mp_recover.specs.declared.recovering.Recovered.{Recovered}
use Rattle.mp_recover.specs.declared.refusals.RecoverRefusal.{RecoverRefusal}
use Rattle.mp_recover.specs.declared.refusals.RecoverRefusal.TheVariants as recover
use Rattle.mp_recover.specs.Finding.{FoundFits, FoundIn, greatest_of, llsns_in, versions_in, newest_base}
use Rattle.mp_recover.specs.KeptCommits.{present}
use Rattle.mp_recover.specs.Images.{logged_above, CleanImage}
use Rattle.mp_recover.specs.ReadingLogs.{SoundBelow, RefusesFirst}
use Rattle.mp_recover.specs.Redoing.{mtrs_redone, ids_in}
use Rattle.mp_recover.specs.Settling.{trx_ids, pages_settled, undone_below}

-- the log at each place
abbrev pub log_files : Image → ℕ → List ℕ
log_files image place = log_of (place + 1) image

-- the stored pages with the mtrs above the base redone, and the first record that can't be
abbrev pub redone_by : Image → PageMap × Option RecoverRefusal
redone_by image = mtrs_redone (logged_above image) (stored_pages image.store)

-- neither the store nor a log has a fault
pub record HasNoFault (image : Image) : Type 0 where
  pub store : store_fault image.store ≡ None
  pub logs : SoundBelow (log_files image) 8

-- the header must be flipped, and its generation is the last one
pub record IsSpent (image : Image) : Type 0 where
  pub some_mtr : logged_above image ≢ []
  pub last : (header_in_force image.store).generation ≡ 2 ^ 64 - 1

-- which refusal comes: the store's first fault, else that of the first log that has one, else the first record that can't
-- be redone, else the last generation; a disk's fault or want of memory may come in its place
abbrev pub RefusesBy : Image → RecoverRefusal → Type 0
RefusesBy image (recover.Store place) = store_fault image.store ≡ Some place
RefusesBy image (recover.Log primary fault) = (store_fault image.store ≡ None) × RefusesFirst (log_files image) (recover.Log primary fault)
RefusesBy image (recover.Gap page wanted found) = HasNoFault image × ((redone_by image).1 ≡ Some (recover.Gap page wanted found))
RefusesBy image (recover.NotApplicable page llsn) = HasNoFault image × ((redone_by image).1 ≡ Some (recover.NotApplicable page llsn))
RefusesBy image (recover.Spent last) = HasNoFault image × ((redone_by image).1 ≡ None) × IsSpent image × (last ≡ (header_in_force image.store).generation)
RefusesBy image recover.StoreDisk = Unit {0}
RefusesBy image (recover.LogDisk primary) = Unit {0}
RefusesBy image recover.Memory = Unit {0}

-- what was loaded of nine disks: nothing was refused, the pages are redone and rolled back, and it is known what was found
pub record IsLoaded (image : Image) (loaded : Loaded) : Type 0 where
  pub no_fault : HasNoFault image
  pub header_is : loaded.header ≡ header_in_force image.store
  pub not_refused : (redone_by image).1 ≡ None
  pub mtrs : AllByRecursion IsMtr (logged_above image)
  pub ids : loaded.found.ids.items ≡ ids_in (logged_above image)
  pub found : FoundIn (header_in_force image.store).llsn (header_in_force image.store).version (logged_above image) loaded.found
  pub pages : page_at loaded.pages.items ≡ pages_settled (trx_ids (ids_in (logged_above image))) (redone_by image).0
  pub undone : loaded.undone ≡ undone_below 4096 (trx_ids (ids_in (logged_above image))) (redone_by image).0
  pub rows : (height : ℕ) → IsTree (page_at loaded.pages.items) height → loaded.rows.items ≡ present (tree_rows (page_at loaded.pages.items) height)

-- what was loaded can be saved
pub record LoadedFits (loaded : Loaded) : Type 0 where
  pub header : IsHeader loaded.header
  pub found : FoundFits loaded.found
  pub count : length loaded.pages.items ≡ 4096

abbrev pub LoadFinds : Image → Result Loaded RecoverRefusal → Type 0
LoadFinds image (Ok loaded) = IsLoaded image loaded
LoadFinds image (Err refusal) = RefusesBy image refusal

-- what recovery answers of nine disks, sound or not: nothing was refused, and these are the new base, the count of commits
-- that are kept, and the count of rows whose newest writer isn't among these
pub record AnswersFor (image : Image) (r : Recovered) : Type 0 where
  pub no_fault : HasNoFault image
  pub not_refused : (redone_by image).1 ≡ None
  pub not_spent : IsSpent image → ⊥
  pub base : r.base ≡ newest_base (header_in_force image.store).base (ids_in (logged_above image))
  pub kept : r.kept ≡ length (ids_in (logged_above image))
  pub undone : r.undone ≡ undone_below 4096 (trx_ids (ids_in (logged_above image))) (redone_by image).0

abbrev pub RecoverFinds : Image → Result Recovered RecoverRefusal → Type 0
RecoverFinds image (Ok r) = AnswersFor image r
RecoverFinds image (Err refusal) = RefusesBy image refusal

-- nine disks after recovery: clean, and the store shows the pages rolled back under a new header, where an mtr was above
-- the base, and what it showed otherwise
pub record IsRecovered (before after : Image) : Type 0 where
  pub clean : CleanImage after
  pub base : (header_in_force after.store).base ≡ newest_base (header_in_force before.store).base (ids_in (logged_above before))
  pub llsn : (header_in_force after.store).llsn ≡ greatest_of (header_in_force before.store).llsn (llsns_in (logged_above before))
  pub version : (header_in_force after.store).version ≡ greatest_of (header_in_force before.store).version (versions_in (logged_above before))
  pub same : logged_above before ≡ [] → (n : ℕ) → n < 4096 → stored_pages after.store n ≡ stored_pages before.store n
  pub saved : logged_above before ≢ [] → (n : ℕ) → n < 4096
      → IsSaved (header_in_force after.store).llsn (stored_pages before.store n) (pages_settled (trx_ids (ids_in (logged_above before))) (redone_by before).0 n) (stored_pages after.store n)
