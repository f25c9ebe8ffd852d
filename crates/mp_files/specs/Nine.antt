-- Nine disks: what they read as, what a crash leaves of them, what a call left as it was, and whose count of faults rose. The log of primary n has the place n - 1.
use Rattle.std.specs.Prelude.{◌≡◌, ℕ, ◌+◌, ◌-◌, ◌≤◌, List, [], length, map, slice_get, slice_index_or, Option, Some, None, IsTrue}
use Rattle.mp_outside.specs.Disks.{Quiet}
use Rattle.mp_outside.specs.Faults.{Rose}
use Rattle.mp_outside.specs.declared.disks.Disk.{Ghosts}
use Rattle.mp_files.specs.declared.disks.Disks.{Disks}

-- nine files, as a crash may leave them
pub record Image : Type 0 where
  pub store : List ℕ
  pub logs : List (List ℕ)

-- the log of a primary; no bytes where there is none
abbrev pub log_of : ℕ → Image → List ℕ
log_of primary image = slice_index_or image.logs (primary - 1) []

-- what holds of what stands at a place in two lists, where both have it
abbrev pub At : {X Y : Type 0} → (X → Y → Type 0) → List X → List Y → ℕ → Type 0
At {X} {Y} holds xs ys place = (x : X) (y : Y) → slice_get xs place ≡ Some x → slice_get ys place ≡ Some y → holds x y

module _ {D : Type 0} (g : Ghosts D) where
  -- each file is an image of the disk at its place, and there are as many
  pub record AreImages (disks : List D) (files : List (List ℕ)) : Type 0 where
    pub count : length files ≡ length disks
    pub each : (place : ℕ) → At g.image disks files place

  -- what a crash now may leave of all nine
  pub record IsImage (disks : Disks D) (image : Image) : Type 0 where
    pub store : g.image disks.store image.store
    pub logs : AreImages disks.logs.items image.logs

  -- what reads of all nine give
  abbrev pub as_read : Disks D → Image
  as_read disks = record { store = g.seen disks.store; logs = map g.seen disks.logs.items }

  -- whatever a crash now leaves, this holds of it
  abbrev pub Every : Disks D → (Image → Type 0) → Type 0
  Every disks P = (image : Image) → IsImage disks image → P image

  -- what a read gives of a disk, where there is one
  abbrev pub seen_of : Option D → List ℕ
  seen_of None = []
  seen_of (Some disk) = g.seen disk

  -- what a read gives of the log at each place
  abbrev pub seen_at : List D → ℕ → List ℕ
  seen_at logs place = seen_of (slice_get logs place)

  -- each of some disks tells its bytes
  abbrev pub EachTells : List D → Type 0
  EachTells disks = (place : ℕ) (disk : D) → slice_get disks place ≡ Some disk → IsTrue (g.tells disk)

  -- all nine do
  pub record AllTell (disks : Disks D) : Type 0 where
    pub store : IsTrue (g.tells disks.store)
    pub logs : EachTells disks.logs.items

  -- a call only looked: the disk tells and reads as before, no image is new, and its count of faults didn't fall
  pub record KeptDisk (old new : D) : Type 0 where
    pub tells : g.tells new ≡ g.tells old
    pub quiet : Quiet (g.seen old) (g.image old) (g.seen new) (g.image new)
    pub count : g.faults old ≤ g.faults new

  -- so it did with each of as many disks
  pub record KeptLogs (old new : List D) : Type 0 where
    pub count : length new ≡ length old
    pub each : (place : ℕ) → At KeptDisk old new place

  -- and with all nine
  pub record KeptNine (old new : Disks D) : Type 0 where
    pub store : KeptDisk old.store new.store
    pub logs : KeptLogs old.logs.items new.logs.items

  -- whatever a call did, it is the same disk: it tells as before, and its count of faults didn't fall
  pub record StillDisk (old new : D) : Type 0 where
    pub tells : g.tells new ≡ g.tells old
    pub count : g.faults old ≤ g.faults new

  -- so are all nine: there are as many logs as before
  pub record StillNine (old new : Disks D) : Type 0 where
    pub count : length new.logs.items ≡ length old.logs.items
    pub store : StillDisk old.store new.store
    pub each : (place : ℕ) → At StillDisk old.logs.items new.logs.items place

  -- a disk's count of faults rose
  abbrev pub DiskRose : D → D → Type 0
  DiskRose old new = Rose (g.faults old) (g.faults new)

  -- there is a disk at the place before and after, and its count of faults rose
  pub record RoseAt (place : ℕ) (old new : List D) : Type 0 where
    pub before : D
    pub after : D
    pub was : slice_get old place ≡ Some before
    pub now : slice_get new place ≡ Some after
    pub rose : DiskRose before after

  -- that of a primary did, of the disks of logs
  abbrev pub RoseOf : ℕ → List D → List D → Type 0
  RoseOf primary old new = (place : ℕ) × (primary ≡ place + 1) × RoseAt place old new

  -- and of all nine
  abbrev pub LogRose : ℕ → Disks D → Disks D → Type 0
  LogRose primary old new = RoseOf primary old.logs.items new.logs.items
