-- Logs that are emptied one after another. The log of primary n has the place n - 1.
use Rattle.std.specs.Prelude.{◌≡◌, ℕ, ◌<◌, ◌≤◌, List, [], length, slice_get, Some, IsTrue}
use Rattle.mp_cells.specs.declared.records.Mtr.{Mtr}
use Rattle.mp_outside.specs.declared.disks.Disk.{Ghosts}
use Rattle.mp_outside.specs.Disks.{Only}
use Rattle.mp_files.specs.Nine.{At, KeptLogs, StillDisk}
use Rattle.mp_log.specs.Logs.{HoldsOnly, HoldsEither}

module _ {D : Type 0} (g : Ghosts D) where
  -- a log was emptied, or the attempt was: a crash leaves its batches or none
  pub record MayEmpty (old new : D) : Type 0 where
    pub still : StillDisk g old new
    pub either : (batches : List (List Mtr)) → IsTrue (g.tells old) → HoldsOnly batches (g.image old) → HoldsEither batches [] (g.image new)

  -- and now it has none
  pub record DidEmpty (old new : D) : Type 0 where
    pub may : MayEmpty old new
    pub emptied : IsTrue (g.tells old) → HoldsOnly [] (g.image new)

  -- the logs below a place were emptied, and the others are as they were
  pub record EmptiedBelow (place : ℕ) (old new : List D) : Type 0 where
    pub count : length new ≡ length old
    pub each : (k : ℕ) → k < place → At DidEmpty old new k
    pub others : (k : ℕ) → place ≤ k → slice_get new k ≡ slice_get old k

  -- a disk was synced: a crash leaves what a read gives
  abbrev pub IsSynced : D → Type 0
  IsSynced disk = IsTrue (g.tells disk) → Only (g.seen disk) (g.image disk)

  -- the disks below a place were synced, and the others are as they were
  pub record SyncedBelow (place : ℕ) (old new : List D) : Type 0 where
    pub kept : KeptLogs g old new
    pub each : (k : ℕ) (disk : D) → k < place → slice_get new k ≡ Some disk → IsSynced disk
