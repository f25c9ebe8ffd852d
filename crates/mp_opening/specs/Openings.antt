-- What opening nine disks for a run answers, and what it hands out.
use Rattle.std.specs.Prelude.{◌≡◌, ℕ, ◌+◌, ◌*◌, ◌-◌, ◌^◌, ◌<◌, ◌≤◌, ◌==◌, nat_le, if◌then◌else◌, true, List, [], length, map, slice_get, vec_capacity, Option, Some, None, Result, Ok, Err, IsTrue}
use Rattle.std.specs.List.{AllByRecursion}
use Rattle.mp_cells.specs.declared.records.Mtr.{Mtr}
use Rattle.mp_cells.specs.PageMaps.{page_at}
use Rattle.mp_cells.specs.Trees.{IsClean}
use Rattle.mp_core_trx.specs.declared.opening.Base.{Base}
use Rattle.mp_outside.specs.declared.disks.Disk.{Ghosts}
use Rattle.mp_outside.specs.Disks.{Only}
use Rattle.mp_files.specs.declared.disks.Disks.{Disks}
use Rattle.mp_files.specs.Nine.{Image, At, KeptDisk, DiskRose, LogRose}
use Rattle.mp_log.specs.Logs.{mtrs_of}
use Rattle.mp_log.specs.Opening.{first_above}
use Rattle.mp_log.specs.Readers.{log_mtrs}
use Rattle.mp_log.specs.Tails.{LogView, LogStands}
use Rattle.mp_store.specs.declared.headers.Header.{Header}
use Rattle.mp_store.specs.StoreFiles.{header_in_force, store_fault}
use Rattle.mp_store.specs.CleanStores.{stored_pages}
use Rattle.mp_recover.specs.declared.refusals.RecoverRefusal.TheVariants as recover
use Rattle.mp_recover.specs.Images.{base_llsn, logged_above, CleanImage}
use Rattle.mp_recover.specs.ReadingLogs.{RefusesFirst}
use Rattle.mp_recover.specs.Recovering.{log_files, HasNoFault}
use Rattle.mp_opening.specs.declared.opening.Opened.{Opened}
use Rattle.mp_opening.specs.declared.refusals.ClusterRefusal.{ClusterRefusal}
use Rattle.mp_opening.specs.declared.refusals.ClusterRefusal.TheVariants as cluster
use Rattle.mp_opening.specs.declared.refusals.SpentNumber.TheVariants.{Generations, Versions, Timestamps, Llsn}

-- what a store had reached, by its header
abbrev pub base_of : Header → Base
base_of header = record { ts = header.base; llsn = header.llsn; version = header.version }

-- THE TABLE of numbers that a run of so many transactions could bring past their formats: the first such one, with what the
-- store has reached of it and what the run may add
abbrev pub first_spent : Header → ℕ → Option ClusterRefusal
first_spent header begins =
    if header.generation == 2 ^ 64 - 1 then Some (cluster.Spent Generations header.generation 1)
    else if nat_le (2 ^ 24) (header.version + begins) then Some (cluster.Spent Versions header.version begins)
    else if nat_le (2 ^ 38) (header.base + 8 * begins) then Some (cluster.Spent Timestamps header.base (8 * begins))
    else if nat_le (2 ^ 62) (header.llsn + 240000) then Some (cluster.Spent Llsn header.llsn 240000)
    else None

-- the least LLSN above the base in the log at a place, of which the primary is the next number
abbrev pub least_above : Image → ℕ → Option ℕ
least_above image place = first_above (base_llsn image) (map (λ mtr. mtr.llsn) (log_mtrs (place + 1) (log_files image place)).0)

-- the log of this primary is the first of eight that has an mtr above the base, and this is its least such LLSN
pub record IsFirstAbove (image : Image) (primary llsn : ℕ) : Type 0 where
  pub place : ℕ
  pub primary_is : primary ≡ place + 1
  pub within : place < 8
  pub least : least_above image place ≡ Some llsn
  pub before : (other : ℕ) → other < place → least_above image other ≡ None

-- which refusal comes, in this order; a disk's fault or want of memory may come in its place
abbrev pub RefusesRun : Image → ℕ → ClusterRefusal → Type 0
RefusesRun image begins (cluster.Store place) = store_fault image.store ≡ Some place
RefusesRun image begins (cluster.Log primary place) = (store_fault image.store ≡ None) × RefusesFirst (log_files image) (recover.Log primary place)
RefusesRun image begins (cluster.NeedsRecover primary llsn) = HasNoFault image × IsFirstAbove image primary llsn
RefusesRun image begins cluster.NotClean = HasNoFault image × (logged_above image ≡ []) × ¬ IsClean (base_llsn image) (stored_pages image.store)
RefusesRun image begins (cluster.Spent what base add) = CleanImage image × (first_spent (header_in_force image.store) begins ≡ Some (cluster.Spent what base add))
RefusesRun image begins cluster.StoreDisk = Unit {0}
RefusesRun image begins (cluster.LogDisk primary) = Unit {0}
RefusesRun image begins cluster.Memory = Unit {0}

-- A run may begin from nine files: the store is clean, no log holds an mtr above it, and no number is spent
pub record MayBegin (image : Image) (begins : ℕ) : Type 0 where
  pub clean : CleanImage image
  pub unspent : first_spent (header_in_force image.store) begins ≡ None

module _ {D : Type 0} where
  -- nine files are opened, and handed out are what the store had reached and its pages; or they are refused
  abbrev pub OpensAs : Image → ℕ → Result (Opened D) ClusterRefusal → Type 0
  OpensAs image begins (Ok opened) = MayBegin image begins × (opened.base ≡ base_of (header_in_force image.store)) × (page_at opened.pages.items ≡ stored_pages image.store)
  OpensAs image begins (Err refusal) = RefusesRun image begins refusal

module _ {D : Type 0} (g : Ghosts D) where
  -- A log as it is opened for a run: it takes mtrs, nothing is appended, and no mtr in it is above the base LLSN
  pub record IsLogFrom (base primary : ℕ) (log : LogView D) : Type 0 where
    pub live : log.tail.live ≡ true
    pub node : log.tail.node ≡ primary
    pub nothing : log.tail.bytes ≡ []
    pub last : log.tail.last ≤ base
    pub stands : IsTrue (g.tells log.disk) → (batches : List (List Mtr)) × LogStands batches [] log.tail (g.seen log.disk) (g.image log.disk)
        × AllByRecursion (λ mtr. mtr.llsn ≤ base) (mtrs_of batches)

  -- so it is with a log at a place
  abbrev pub IsLogFromAt : ℕ → List (LogView D) → ℕ → Type 0
  IsLogFromAt base logs place = (log : LogView D) → slice_get logs place ≡ Some log → IsLogFrom base (place + 1) log

  -- WHAT IS HANDED OUT: the logs, with the disks that they were opened on, each as it was; the store's disk is as it was, and the
  -- list of the logs' disks has room for all of them
  pub record HandsOut (old new : Disks D) (opened : Opened D) : Type 0 where
    pub store : KeptDisk g old.store new.store
    -- what was read of the store is what a crash leaves of it
    pub synced : IsTrue (g.tells old.store) → Only (g.seen new.store) (g.image new.store)
    pub none : new.logs.items ≡ []
    pub room : 8 ≤ vec_capacity new.logs
    pub count : length opened.logs.items ≡ 8
    pub kept : (place : ℕ) → At (λ disk log. KeptDisk g disk log.disk) old.logs.items opened.logs.items place
    pub logs : (place : ℕ) → IsLogFromAt opened.base.llsn opened.logs.items place

  -- a refusal by a disk comes only where that disk's count of faults rose
  abbrev pub RunCause : Disks D → Disks D → ClusterRefusal → Type 0
  RunCause old new cluster.StoreDisk = DiskRose g old.store new.store
  RunCause old new (cluster.LogDisk primary) = LogRose g primary old new
  RunCause old new _ = Unit {0}
