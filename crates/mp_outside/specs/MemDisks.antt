-- What contracts see of a disk in memory, and what a crash may leave of it.
use Rattle.std.specs.Prelude.{◌≡◌, ◌⊎◌, ℕ, ◌+◌, ◌-◌, ◌<◌, ◌≤◌, min, max, List, length, take, drop, replicate, slice_index}
use Rattle.mp_outside.specs.Calls.{Calls}
use Rattle.mp_outside.specs.Disks.{written}
use Rattle.mp_outside.specs.Marks.{mark_at, marked, left_of}
use Rattle.mp_outside.specs.declared.marks.Mark.{Mark}
use Rattle.mp_outside.specs.declared.marks.Mark.TheVariants.{Untouched}

-- what a read gives, what the last sync left, the marks of all its places, the least and the greatest length that a crash may leave, how many bytes it takes at most, and the calls so far
pub record MemDiskState : Type 0 where
  pub seen : List ℕ
  pub synced : List ℕ
  pub marks : List Mark
  pub least : ℕ
  pub most : ℕ
  pub room : ℕ
  pub calls : Calls

-- all of this file is synced
abbrev pub settled : List ℕ → ℕ → Calls → MemDiskState
settled file room calls = record {
  seen = file;
  synced = file;
  marks = replicate room Untouched;
  least = length file;
  most = length file;
  room = room;
  calls = calls;
}

-- after a write
abbrev pub after_write : ℕ → List ℕ → MemDiskState → Calls → MemDiskState
after_write place bytes disk calls = record {
  seen = written place bytes disk.seen;
  synced = disk.synced;
  marks = marked place (length bytes) (length disk.seen) disk.marks;
  least = disk.least;
  most = max disk.most (place + length bytes);
  room = disk.room;
  calls = calls;
}

-- after a cut
abbrev pub after_cut : ℕ → MemDiskState → Calls → MemDiskState
after_cut size disk calls = record {
  seen = take size disk.seen;
  synced = disk.synced;
  marks = disk.marks;
  least = min size disk.least;
  most = disk.most;
  room = disk.room;
  calls = calls;
}

-- after a call that changed no byte
abbrev pub after_call : MemDiskState → Calls → MemDiskState
after_call disk calls = record {
  seen = disk.seen;
  synced = disk.synced;
  marks = disk.marks;
  least = disk.least;
  most = disk.most;
  room = disk.room;
  calls = calls;
}

-- a file of a length in between that has the synced bytes wherever no write reached
pub record Damaged (disk : MemDiskState) (file : List ℕ) : Type 0 where
  pub least : disk.least ≤ length file
  pub most : length file ≤ disk.most
  pub untouched : (place : ℕ) → place < length file → mark_at disk.marks place ≡ Untouched
      → slice_index file place ≡ slice_index disk.synced place

-- what a crash now may leave
abbrev pub MemImage : MemDiskState → List ℕ → Type 0
MemImage disk file = (file ≡ disk.seen) ⊎ Damaged disk file

-- what a crash of choice 1, 2 or 3 leaves
pub record Left (choice : ℕ) (disk : MemDiskState) (file : List ℕ) : Type 0 where
  pub size : length file ≡ length disk.seen
  pub each : (place : ℕ) → place < length file
      → slice_index file place ≡ left_of (mark_at disk.marks place) choice (slice_index disk.seen place) (slice_index disk.synced place)

-- what is true of the fields: two buffers and a mark for each place, of one size; outside a range nothing waits for a sync; what no write reached reads as at the last sync
pub record IsMemDisk (bytes synced : List ℕ) (marks : List Mark) (size synced_size from to : ℕ) : Type 0 where
  pub synced_room : length synced ≡ length bytes
  pub marks_room : length marks ≡ length bytes
  pub within : size ≤ length bytes
  pub synced_within : synced_size ≤ length bytes
  pub ordered : from ≤ to
  pub ends : to ≤ length bytes
  pub below : (take from bytes ≡ take from synced) × (take from marks ≡ replicate from Untouched)
  pub above : (drop to bytes ≡ drop to synced) × (drop to marks ≡ replicate (length bytes - to) Untouched)
  pub untouched : (place : ℕ) → place < size → mark_at marks place ≡ Untouched
      → slice_index (take size bytes) place ≡ slice_index (take synced_size synced) place

-- and of the lengths that a crash may leave: those of what a read gives and of what the last sync left lie in between
pub record IsBetween (size synced_size least most : ℕ) : Type 0 where
  pub low : least ≤ size
  pub synced_low : least ≤ synced_size
  pub high : size ≤ most
  pub synced_high : synced_size ≤ most
