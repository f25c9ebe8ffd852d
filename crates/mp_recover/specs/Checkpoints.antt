-- What a checkpoint of nine disks answers, and what a crash leaves of them.
use Rattle.std.specs.Prelude.{◌≡◌, ◌⊎◌, ℕ, List, [], length, slice_get, Option, Some, None, Result, Ok, Err, IsTrue}
use Rattle.mp_cells.specs.declared.records.Mtr.{Mtr}
use Rattle.mp_cells.specs.Trees.{PageMap}
use Rattle.mp_outside.specs.declared.disks.Disk.{Ghosts}
use Rattle.mp_files.specs.declared.disks.Disks.{Disks}
use Rattle.mp_files.specs.Nine.{Image, At, AreImages, KeptNine, DiskRose, LogRose}
use Rattle.mp_log.specs.Logs.{IsText, HoldsOnly}
use Rattle.mp_store.specs.declared.headers.Header.{Header}
use Rattle.mp_store.specs.declared.refusals.StoreRefusal.{StoreRefusal}
use Rattle.mp_store.specs.declared.refusals.StoreRefusal.TheVariants as refusals
use Rattle.mp_checkpoint.specs.Saving.{ShowsSame, ShowsNew}
use Rattle.mp_recover.specs.declared.refusals.RecoverRefusal.{RecoverRefusal}
use Rattle.mp_recover.specs.declared.refusals.RecoverRefusal.TheVariants as recover

-- a refusal of the store, as one of recovery
abbrev pub refused_by_store : StoreRefusal → RecoverRefusal
refused_by_store (refusals.NotStore place) = recover.Store place
refused_by_store refusals.Disk = recover.StoreDisk
refused_by_store refusals.Memory = recover.Memory

-- Ok where the store has no fault, and `Store` at its first one
abbrev pub CheckpointFinds : Option ℕ → Result (Unit {0}) RecoverRefusal → Type 0
CheckpointFinds fault (Ok x) = fault ≡ None
CheckpointFinds fault (Err (recover.Store place)) = fault ≡ Some place
CheckpointFinds fault (Err recover.StoreDisk) = Unit {0}
CheckpointFinds fault (Err (recover.LogDisk primary)) = Unit {0}
CheckpointFinds fault (Err recover.Memory) = Unit {0}
CheckpointFinds fault (Err _) = ⊥

module _ {D : Type 0} (g : Ghosts D) where
  -- a refusal other than by a disk leaves all nine as they were
  abbrev pub LeavesAll : Disks D → Disks D → RecoverRefusal → Type 0
  LeavesAll old new recover.StoreDisk = Unit {0}
  LeavesAll old new (recover.LogDisk primary) = Unit {0}
  LeavesAll old new _ = KeptNine g old new

  -- one by a disk comes only where that disk's count of faults rose
  abbrev pub RecoverCause : Disks D → Disks D → RecoverRefusal → Type 0
  RecoverCause old new recover.StoreDisk = DiskRose g old.store new.store
  RecoverCause old new (recover.LogDisk primary) = LogRose g primary old new
  RecoverCause old new _ = Unit {0}

  -- a log's file has the batches that it had, or none
  abbrev pub MayBeEmpty : D → List ℕ → Type 0
  MayBeEmpty disk file = (batches : List (List Mtr)) → IsTrue (g.tells disk) → HoldsOnly batches (g.image disk) → IsText batches file ⊎ IsText [] file

  -- so has each of them
  pub record LogsMayBeEmpty (logs : List D) (files : List (List ℕ)) : Type 0 where
    pub count : length files ≡ length logs
    pub each : (place : ℕ) → At MayBeEmpty logs files place

  -- the logs are as they were, and the store shows the same; or the store shows what is new, and each log has its batches
  -- or none
  abbrev pub CheckpointLeft : Header → PageMap → Disks D → Image → Type 0
  CheckpointLeft header pages old image =
      (AreImages g old.logs.items image.logs × (g.image old.store image.store ⊎ ShowsSame (g.seen old.store) image.store))
      ⊎ (ShowsNew header pages (g.seen old.store) image.store × LogsMayBeEmpty old.logs.items image.logs)

-- eight logs, none of which has a batch
pub record AreEmpty (image : Image) : Type 0 where
  pub count : length image.logs ≡ 8
  pub logs : (place : ℕ) (file : List ℕ) → slice_get image.logs place ≡ Some file → IsText [] file

-- the store shows what is new, and no log has a batch
pub record CheckpointDone (header : Header) (pages : PageMap) (old : List ℕ) (image : Image) : Type 0 where
  pub store : ShowsNew header pages old image.store
  pub empty : AreEmpty image
