-- Opening logs, each on its own disk, one after another.
use Rattle.std.specs.Prelude.{◌≡◌, ℕ, ◌+◌, ◌≤◌, true, List, [], ◌∷◌, ◌++◌, length, Some, None, Result, Ok, Err, IsTrue}
use Rattle.mp_outside.specs.declared.disks.Disk.{Ghosts}
use Rattle.mp_files.specs.Nine.{KeptDisk, DiskRose, RoseOf}
use Rattle.mp_log.specs.declared.refusals.LogRefusal.{LogRefusal}
use Rattle.mp_log.specs.declared.refusals.LogRefusal.TheVariants as refusals
use Rattle.mp_log.specs.Opening.{IsOpened, first_above}
use Rattle.mp_log.specs.Reading.{log_fault}
use Rattle.mp_log.specs.Tails.{LogView}
use Rattle.mp_recover.specs.declared.refusals.RecoverRefusal.TheVariants as recover
use Rattle.mp_recover.specs.ReadingLogs.{SoundBelow, RefusesFirst}
use Rattle.mp_opening.specs.declared.refusals.ClusterRefusal.{ClusterRefusal}
use Rattle.mp_opening.specs.declared.refusals.ClusterRefusal.TheVariants as cluster

-- a refusal of a primary's log, as one of a run
abbrev pub run_refused_by_log : ℕ → LogRefusal → ClusterRefusal
run_refused_by_log primary (refusals.Fault place) = cluster.Log primary place
run_refused_by_log primary refusals.Disk = cluster.LogDisk primary
run_refused_by_log primary refusals.Memory = cluster.Memory

-- which refusal comes of opening eight logs: that of the first that is off its grammar; a disk's fault or want of memory may
-- come in its place
abbrev pub LogsRefuse : (ℕ → List ℕ) → ClusterRefusal → Type 0
LogsRefuse files (cluster.Log primary place) = RefusesFirst files (recover.Log primary place)
LogsRefuse files (cluster.LogDisk primary) = Unit {0}
LogsRefuse files cluster.Memory = Unit {0}
LogsRefuse files _ = ⊥

-- or none is off its grammar
abbrev pub LogsFind : {T : Type 0} → (ℕ → List ℕ) → Result T ClusterRefusal → Type 0
LogsFind files (Ok x) = SoundBelow files 8
LogsFind files (Err refusal) = LogsRefuse files refusal

module _ {D : Type 0} (g : Ghosts D) where
  -- the log of a primary was opened on a disk: it takes mtrs, nothing is appended, and the disk reads as before
  pub record OpensLogOn (primary : ℕ) (disk : D) (log : LogView D) : Type 0 where
    pub kept : KeptDisk g disk log.disk
    pub live : log.tail.live ≡ true
    pub node : log.tail.node ≡ primary
    pub nothing : log.tail.bytes ≡ []
    pub last : (llsn : ℕ) → first_above llsn log.llsns ≡ None → log.tail.last ≤ llsn
    pub holds : IsTrue (g.tells disk) → IsOpened primary log.tail log.llsns (g.seen log.disk) (g.image log.disk)

  -- or it was refused, and the disk that is handed back reads as before
  abbrev pub RefusedFor : ℕ → D → D → LogRefusal → Type 0
  RefusedFor primary old new (refusals.Fault place) = IsTrue (g.tells old) → log_fault primary (g.seen old) ≡ Some place
  RefusedFor primary old new refusals.Disk = DiskRose g old new
  RefusedFor primary old new refusals.Memory = Unit {0}

  -- the first of some disks is taken out, and the log is opened on it
  pub record OpensFirst (primary : ℕ) (old new : List D) (log : LogView D) : Type 0 where
    pub disk : D
    pub split : old ≡ disk ∷ new
    pub opened : OpensLogOn primary disk log

  -- or it is refused, and its disk is the first again
  pub record RefusesAtFirst (primary : ℕ) (old new : List D) (refusal : LogRefusal) : Type 0 where
    pub disk : D
    pub after : D
    pub behind : List D
    pub split : old ≡ disk ∷ behind
    pub now : new ≡ after ∷ behind
    pub kept : KeptDisk g disk after
    pub why : RefusedFor primary disk after refusal

  -- the logs of primaries from this one on were opened on these disks, each on its own
  abbrev pub AreOpenedOn : ℕ → List D → List (LogView D) → Type 0
  AreOpenedOn primary [] [] = Unit {0}
  AreOpenedOn primary [] (log ∷ logs) = ⊥
  AreOpenedOn primary (disk ∷ disks) [] = ⊥
  AreOpenedOn primary (disk ∷ disks) (log ∷ logs) = OpensLogOn primary disk log × AreOpenedOn (primary + 1) disks logs

  -- the disks at the front were taken out, and the logs from primary 1 on were opened on them
  pub record TakesOut (old rest : List D) (logs : List (LogView D)) : Type 0 where
    pub taken : List D
    pub split : old ≡ taken ++ rest
    pub opened : AreOpenedOn 1 taken logs

  -- the next log was refused, and its disk is the first of those that are left
  pub record StopsAt (refusal : ClusterRefusal) (old rest : List D) (logs : List (LogView D)) : Type 0 where
    pub before : List D
    pub opened : TakesOut old before logs
    pub why : LogRefusal
    pub refused : RefusesAtFirst (length logs + 1) before rest why
    pub refusal_is : refusal ≡ run_refused_by_log (length logs + 1) why

  -- a refusal by the disk of a log comes only where its count of faults rose
  abbrev pub LogsCause : List D → List D → ClusterRefusal → Type 0
  LogsCause old new (cluster.Log primary place) = Unit {0}
  LogsCause old new (cluster.LogDisk primary) = RoseOf g primary old new
  LogsCause old new cluster.Memory = Unit {0}
  LogsCause old new _ = ⊥
