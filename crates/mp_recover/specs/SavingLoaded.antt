-- How what was loaded is saved.
use Rattle.std.specs.Prelude.{◌≡◌, ◌≢◌, ℕ, ◌+◌, ◌-◌, ◌^◌, List, Some, Result, Ok, Err}
use Rattle.mp_cells.specs.PageMaps.{page_at}
use Rattle.mp_outside.specs.declared.disks.Disk.{Ghosts}
use Rattle.mp_files.specs.declared.disks.Disks.{Disks}
use Rattle.mp_files.specs.Nine.{Image}
use Rattle.mp_store.specs.declared.headers.Header.{Header}
use Rattle.mp_store.specs.StoreFiles.{store_fault}
use Rattle.mp_checkpoint.specs.Saving.{ShowsNew, MaySave}
use Rattle.mp_recover.specs.declared.loading.Loaded.{Loaded}
use Rattle.mp_recover.specs.declared.refusals.RecoverRefusal.{RecoverRefusal}
use Rattle.mp_recover.specs.declared.refusals.RecoverRefusal.TheVariants as recover
use Rattle.mp_recover.specs.Checkpoints.{AreEmpty}
use Rattle.mp_recover.specs.Finding.{newest_base}

-- the header to come
abbrev pub next_header : Loaded → Header
next_header loaded = record {
  generation = loaded.header.generation + 1;
  base = newest_base loaded.header.base loaded.found.ids.items;
  llsn = loaded.found.llsn;
  version = loaded.found.version;
}

-- some mtr was above the base, so that the header must be flipped
abbrev pub MustFlip : Loaded → Type 0
MustFlip loaded = loaded.found.llsn ≢ loaded.header.llsn

-- the header must be flipped, and is of the last generation
abbrev pub HeaderSpent : Loaded → Type 0
HeaderSpent loaded = MustFlip loaded × (loaded.header.generation ≡ 2 ^ 64 - 1)

-- saving refuses `Spent` exactly there; and the store's first fault, where it reads with one
abbrev pub SaveRefuses : List ℕ → Loaded → Result (Unit {0}) RecoverRefusal → Type 0
SaveRefuses file loaded (Ok x) = HeaderSpent loaded → ⊥
SaveRefuses file loaded (Err (recover.Spent last)) = HeaderSpent loaded × (last ≡ loaded.header.generation)
SaveRefuses file loaded (Err (recover.Store place)) = store_fault file ≡ Some place
SaveRefuses file loaded (Err recover.StoreDisk) = Unit {0}
SaveRefuses file loaded (Err (recover.LogDisk primary)) = Unit {0}
SaveRefuses file loaded (Err recover.Memory) = Unit {0}
SaveRefuses file loaded (Err _) = ⊥

-- after it no log has a batch; and the store is as it was, or shows the new header and pages
pub record LoadedSaved {D : Type 0} (g : Ghosts D) (loaded : Loaded) (old : Disks D) (image : Image) : Type 0 where
  pub kept : loaded.found.llsn ≡ loaded.header.llsn → g.image old.store image.store
  pub flipped : MustFlip loaded → MaySave (next_header loaded) (page_at loaded.pages.items) (g.seen old.store)
      → ShowsNew (next_header loaded) (page_at loaded.pages.items) (g.seen old.store) image.store
  pub empty : AreEmpty image
