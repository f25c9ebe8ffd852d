-- What is left to merge of eight logs, and what the next of it is. The log of primary n has the place n - 1.
use Rattle.std.specs.Prelude.{◌≡◌, ◌⊎◌, ℕ, zero, suc, ◌+◌, ◌<◌, ◌≤◌, ◌^◌, Bool, true, false, List, [], ◌∷◌, slice_get, Option, Some, None, Result, Ok, Err, IsTrue, IfOk, IfSome}
use Rattle.std.specs.List.{flat_map, AllByRecursion}
use Rattle.mp_cells.specs.declared.records.Mtr.{Mtr}
use Rattle.mp_cells.specs.Mtrs.{IsMtr}
use Rattle.mp_outside.specs.declared.disks.Disk.{Ghosts}
use Rattle.mp_files.specs.Nine.{KeptDisk, RoseOf}
use Rattle.mp_histories.specs.Cuts.{log_place}
use Rattle.mp_log.specs.declared.refusals.LogRefusal.{LogRefusal}
use Rattle.mp_log.specs.declared.refusals.LogRefusal.TheVariants as refusals
use Rattle.mp_log.specs.declared.readers.State.TheVariants.{Reading}
use Rattle.mp_log.specs.Reading.{LogCause}
use Rattle.mp_log.specs.Readers.{ReaderView, Remains, fresh_reader, log_mtrs}
use Rattle.mp_recover.specs.declared.lanes.Lane.{Lane}
use Rattle.mp_recover.specs.declared.refusals.RecoverRefusal.{RecoverRefusal}
use Rattle.mp_recover.specs.declared.refusals.RecoverRefusal.TheVariants as recover
use Rattle.mp_recover.specs.PageRecords.{by_log_place}

-- the place of a lane's head in the order of logs; behind all mtrs, where the lane has no head
abbrev pub head_place : Option Mtr → ℕ
head_place None = 2 ^ 66
head_place (Some mtr) = log_place mtr

-- what is left of a log: its head, and what the reader has behind it; nothing where it is over
abbrev pub left_behind : Option Mtr → Bool → ReaderView → List ℕ → List Mtr → Option ℕ → Type 0
left_behind (Some mtr) over reader file left fault = (rest : List Mtr) × (left ≡ mtr ∷ rest) × (over ≡ false)
    × Remains reader file rest fault
left_behind None true reader file left fault = (left ≡ []) × (fault ≡ None)
left_behind None false reader file left fault = Remains reader file left fault

abbrev pub LaneLeft : Lane → List ℕ → List Mtr → Option ℕ → Type 0
LaneLeft lane file left fault = left_behind lane.head lane.over lane.reader file left fault

-- a lane's head is of the grammar
abbrev pub LaneSound : Lane → Type 0
LaneSound lane = IfSome lane.head IsMtr

-- a lane goes on: it is over, or its reader wasn't refused
abbrev pub LaneGoes : Lane → Type 0
LaneGoes lane = (lane.over ≡ true) ⊎ (lane.reader.state ≡ Reading)

-- what a lane is before anything was read
abbrev pub fresh_lane : ℕ → Lane
fresh_lane node = record { reader = fresh_reader node; head = None; over = false }

-- looking for a head: there is one, or nothing is left; or what is left begins with the fault
abbrev pub LaneFills : List ℕ → List Mtr → Option ℕ → Lane → Result (Unit {0}) LogRefusal → Type 0
LaneFills file left fault new (Ok x) = LaneLeft new file left fault × (new.head ≡ None → (left ≡ []) × (fault ≡ None))
LaneFills file left fault new (Err (refusals.Fault place)) = (left ≡ []) × (fault ≡ Some place)
LaneFills file left fault new (Err refusals.Disk) = Unit {0}
LaneFills file left fault new (Err refusals.Memory) = Unit {0}

-- what filling a lane does with it and with its disk
pub record DidFill {D : Type 0} (g : Ghosts D) (result : Result (Unit {0}) LogRefusal) (old new : Lane) (disk disk_after : D) : Type 0 where
  pub kept : KeptDisk g disk disk_after
  pub fills : (left : List Mtr) (fault : Option ℕ) → IsTrue (g.tells disk) → LaneLeft old (g.seen disk) left fault
      → LaneFills (g.seen disk) left fault new result
  pub sound : LaneSound old → LaneSound new
  pub goes : LaneGoes old → IfOk result (λ x. LaneGoes new)
  pub cause : LaneGoes old → LogCause (g.faults disk) (g.faults disk_after) result

-- the first fault of the log at a place
abbrev pub fault_at : (ℕ → List ℕ) → ℕ → Option ℕ
fault_at files place = (log_mtrs (place + 1) (files place)).1

-- it holds of each lane
abbrev pub EachLane : (Lane → Type 0) → List Lane → Type 0
EachLane P lanes = (place : ℕ) (lane : Lane) → slice_get lanes place ≡ Some lane → P lane

-- lanes before anything was read, that of primary n at the place n - 1
abbrev pub AreFresh : List Lane → Type 0
AreFresh lanes = (place : ℕ) (lane : Lane) → slice_get lanes place ≡ Some lane → lane ≡ fresh_lane (place + 1)

-- what is left of each log
abbrev pub LanesLeft : List Lane → (ℕ → List ℕ) → (ℕ → List Mtr) → Type 0
LanesLeft lanes files lefts = (place : ℕ) (lane : Lane) → slice_get lanes place ≡ Some lane
    → LaneLeft lane (files place) (lefts place) (fault_at files place)

-- below a place, a lane without a head has nothing left, and its log has no fault
abbrev pub FilledBelow : ℕ → List Lane → (ℕ → List ℕ) → (ℕ → List Mtr) → Type 0
FilledBelow bound lanes files lefts =
    (place : ℕ) (lane : Lane) → place < bound → slice_get lanes place ≡ Some lane → lane.head ≡ None
    → (lefts place ≡ []) × (fault_at files place ≡ None)

-- a refusal of a log, as one of recovery
abbrev pub refused_as : ℕ → LogRefusal → RecoverRefusal
refused_as primary (refusals.Fault place) = recover.Log primary place
refused_as primary refusals.Disk = recover.LogDisk primary
refused_as primary refusals.Memory = recover.Memory

-- the log of a primary is off the grammar, first at this place
abbrev pub IsOffAt : (ℕ → List ℕ) → ℕ → ℕ → Type 0
IsOffAt files primary fault = (place : ℕ) × (place < 8) × (primary ≡ place + 1) × (fault_at files place ≡ Some fault)

-- a merge refuses for a log that is off the grammar, for a disk, or for want of memory
abbrev pub MergeRefuses : (ℕ → List ℕ) → RecoverRefusal → Type 0
MergeRefuses files (recover.Log primary fault) = IsOffAt files primary fault
MergeRefuses files (recover.LogDisk primary) = Unit {0}
MergeRefuses files recover.Memory = Unit {0}
MergeRefuses files _ = ⊥

-- what redoing the logs refuses has its cause: for a log's disk its count of faults rose, and the store's isn't used
abbrev pub RedoCause : {D : Type 0} → Ghosts D → List D → List D → RecoverRefusal → Type 0
RedoCause g old new (recover.LogDisk primary) = RoseOf g primary old new
RedoCause g old new recover.StoreDisk = ⊥
RedoCause g old new _ = Unit {0}

-- for a disk it refuses only where that disk's count of faults rose
abbrev pub MergeCause : {D : Type 0} → Ghosts D → List D → List D → RecoverRefusal → Type 0
MergeCause g old new (recover.Log primary fault) = Unit {0}
MergeCause g old new (recover.LogDisk primary) = RoseOf g primary old new
MergeCause g old new recover.Memory = Unit {0}
MergeCause g old new _ = ⊥

-- filling all lanes: each has a head or nothing left
abbrev pub AllFill : (ℕ → List ℕ) → (ℕ → List Mtr) → List Lane → Result (Unit {0}) RecoverRefusal → Type 0
AllFill files lefts new (Ok x) = LanesLeft new files lefts × FilledBelow 8 new files lefts
AllFill files lefts new (Err refusal) = MergeRefuses files refusal

-- of the lanes below a bound, none has a head before that of this one, and those before it have theirs behind
pub record IsLeast (bound : ℕ) (lanes : List Lane) (at : ℕ) : Type 0 where
  pub lane : Lane
  pub there : slice_get lanes at ≡ Some lane
  pub least : (k : ℕ) (other : Lane) → k < bound → slice_get lanes k ≡ Some other
      → head_place lane.head ≤ head_place other.head
  pub first : (k : ℕ) (other : Lane) → k < at → slice_get lanes k ≡ Some other
      → head_place lane.head < head_place other.head

-- so many places, from one on
abbrev pub places_from : ℕ → ℕ → List ℕ
places_from start zero = []
places_from start (suc count) = start ∷ places_from (start + 1) count

-- mtrs in ascending order of logs
abbrev pub InLogOrder : List Mtr → Type 0
InLogOrder [] = Unit {0}
InLogOrder (mtr ∷ mtrs) = AllByRecursion (λ later. log_place mtr < log_place later) mtrs × InLogOrder mtrs

-- what is left of all eight logs together, in the order of recovery
abbrev pub all_left : (ℕ → List Mtr) → List Mtr
all_left lefts = by_log_place (flat_map lefts (places_from 0 8))

-- these mtrs are left to merge, in this order
pub record Merges (lanes : List Lane) (files : ℕ → List ℕ) (mtrs : List Mtr) : Type 0 where
  pub lefts : ℕ → List Mtr
  pub left : LanesLeft lanes files lefts
  pub ascend : (place : ℕ) → InLogOrder (lefts place)
  pub mtrs_are : mtrs ≡ all_left lefts

-- a merge gives the first of what is left; or nothing is left, and no log has a fault
abbrev pub GivesMerged : (ℕ → List ℕ) → List Mtr → List Lane → Result (Option Mtr) RecoverRefusal → Type 0
GivesMerged files mtrs new (Ok (Some mtr)) = (rest : List Mtr) × (mtrs ≡ mtr ∷ rest) × Merges new files rest
GivesMerged files mtrs new (Ok None) = (mtrs ≡ []) × ((place : ℕ) → place < 8 → fault_at files place ≡ None)
GivesMerged files mtrs new (Err refusal) = MergeRefuses files refusal
