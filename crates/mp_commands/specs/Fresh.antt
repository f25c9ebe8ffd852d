-- Nine disks after they were made anew.
use Rattle.std.specs.Prelude.{◌≡◌, ℕ, ◌<◌, ◌≤◌, List, [], ◌∷◌, length, slice_get, IsTrue}
use Rattle.mp_outside.specs.Disks.{Only}
use Rattle.mp_outside.specs.declared.disks.Disk.{Ghosts}
use Rattle.mp_files.specs.declared.disks.Disks.{Disks}
use Rattle.mp_files.specs.Nine.{At, DiskRose, RoseOf, LogRose}
use Rattle.mp_store.specs.FreshStores.{IsFresh}
use Rattle.mp_commands.specs.declared.faults.DiskFault.{DiskFault}
use Rattle.mp_commands.specs.declared.faults.DiskFault.TheVariants.{Store, Log}

module _ {D : Type 0} (g : Ghosts D) where
  -- a disk that tells its bytes reads as a fresh store, and a crash leaves nothing else
  abbrev pub MadeStore : D → D → Type 0
  MadeStore old new = IsTrue (g.tells old) → IsFresh (g.seen new) × Only (g.seen new) (g.image new)

  -- a disk that tells its bytes reads as a fresh log, which is the one byte 00, and a crash leaves nothing else
  abbrev pub MadeLog : D → D → Type 0
  MadeLog old new = IsTrue (g.tells old) → (g.seen new ≡ 0 ∷ []) × Only (g.seen new) (g.image new)

  -- the logs below a place were made, and the others are as they were
  pub record MadeBelow (place : ℕ) (old new : List D) : Type 0 where
    pub count : length new ≡ length old
    pub each : (k : ℕ) → k < place → At MadeLog old new k
    pub others : (k : ℕ) → place ≤ k → slice_get new k ≡ slice_get old k

  -- a store and logs that are fresh, as many logs as before
  pub record Made (old new : Disks D) : Type 0 where
    pub count : length new.logs.items ≡ length old.logs.items
    pub store : MadeStore old.store new.store
    pub logs : (k : ℕ) → At MadeLog old.logs.items new.logs.items k

  -- the disk at fault is a log's, and its count of faults rose
  abbrev pub LogAtFault : DiskFault → List D → List D → Type 0
  LogAtFault Store old new = ⊥
  LogAtFault (Log primary) old new = RoseOf g primary old new

  -- the count of faults of the disk at fault rose; where it is a log's, the store wasn't touched
  abbrev pub Explains : DiskFault → Disks D → Disks D → Type 0
  Explains Store old new = DiskRose g old.store new.store
  Explains (Log primary) old new = LogRose g primary old new × (new.store ≡ old.store)
