-- What is read of a store before a run.
use Rattle.std.specs.Prelude.{◌≡◌, ℕ, List, Some, None, Result, Ok, Err}
use Rattle.mp_cells.specs.PageMaps.{page_at}
use Rattle.mp_outside.specs.declared.disks.Disk.{Ghosts}
use Rattle.mp_files.specs.Nine.{DiskRose}
use Rattle.mp_store.specs.declared.refusals.StoreRefusal.{StoreRefusal}
use Rattle.mp_store.specs.declared.refusals.StoreRefusal.TheVariants as refusals
use Rattle.mp_store.specs.StoreFiles.{header_in_force, store_fault}
use Rattle.mp_store.specs.CleanStores.{stored_pages}
use Rattle.mp_opening.specs.declared.contents.StoreContent.{StoreContent}
use Rattle.mp_opening.specs.declared.refusals.ClusterRefusal.{ClusterRefusal}
use Rattle.mp_opening.specs.declared.refusals.ClusterRefusal.TheVariants as cluster

-- a refusal of the store, as one of a run
abbrev pub run_refused_by_store : StoreRefusal → ClusterRefusal
run_refused_by_store (refusals.NotStore place) = cluster.Store place
run_refused_by_store refusals.Disk = cluster.StoreDisk
run_refused_by_store refusals.Memory = cluster.Memory

-- the header and the pages of a store file without a fault
pub record IsContent (file : List ℕ) (content : StoreContent) : Type 0 where
  pub sound : store_fault file ≡ None
  pub header_is : content.header ≡ header_in_force file
  pub pages : page_at content.pages.items ≡ stored_pages file

-- reading a store file: its content, or its first fault
abbrev pub ContentFinds : List ℕ → Result StoreContent ClusterRefusal → Type 0
ContentFinds file (Ok content) = IsContent file content
ContentFinds file (Err (cluster.Store place)) = store_fault file ≡ Some place
ContentFinds file (Err cluster.StoreDisk) = Unit {0}
ContentFinds file (Err cluster.Memory) = Unit {0}
ContentFinds file (Err _) = ⊥

-- a refusal by the disk comes only where its count of faults rose
abbrev pub ContentCause : {D : Type 0} → Ghosts D → D → D → ClusterRefusal → Type 0
ContentCause g old new (cluster.Store place) = Unit {0}
ContentCause g old new cluster.StoreDisk = DiskRose g old new
ContentCause g old new cluster.Memory = Unit {0}
ContentCause g old new _ = ⊥
