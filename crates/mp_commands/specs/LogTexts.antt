-- How logs are printed, and which one is refused. The log of primary n has the place n - 1.
use Rattle.std.specs.Prelude.{◌≡◌, ℕ, zero, suc, ◌+◌, ◌<◌, List, [], ◌∷◌, ◌++◌, length, slice_get, Option, Some, None, Result, Ok, Err, IsTrue, IfOk, codes, decimal}
use Rattle.std.specs.List.{flat_map}
use Rattle.mp_outside.specs.declared.disks.Disk.{Ghosts}
use Rattle.mp_cells.specs.declared.records.Mtr.{Mtr}
use Rattle.mp_report.specs.Lines.{line}
use Rattle.mp_report.specs.Records.{record_text}
use Rattle.mp_log.specs.Readers.{log_mtrs}
use Rattle.mp_log.specs.Reading.{LogCause}
use Rattle.mp_log.specs.declared.refusals.LogRefusal.{LogRefusal}
use Rattle.mp_log.specs.declared.refusals.LogRefusal.TheVariants as refusals
use Rattle.mp_commands.specs.declared.refusals.LogsRefusal.{LogsRefusal}
use Rattle.mp_commands.specs.declared.refusals.LogsRefusal.TheVariants.{Log, LogDisk, Memory}
use Rattle.mp_files.specs.Nine.{seen_at, EachTells, KeptDisk, RoseOf}

-- an mtr: its line, and its records
abbrev pub mtr_words : Mtr → List (List ℕ)
mtr_words mtr = codes "mtr" ∷ codes "llsn" ∷ decimal mtr.llsn ∷ codes "records" ∷ decimal (length mtr.records) ∷ []

abbrev pub mtr_text : Mtr → List ℕ
mtr_text mtr = line (mtr_words mtr) ++ flat_map record_text mtr.records

-- a log of a primary: its line, and its mtrs
abbrev pub log_words : ℕ → ℕ → List (List ℕ)
log_words primary count = codes "log" ∷ decimal primary ∷ codes "mtrs" ∷ decimal count ∷ []

abbrev pub log_text : ℕ → List Mtr → List ℕ
log_text primary mtrs = line (log_words primary (length mtrs)) ++ flat_map mtr_text mtrs

-- the mtrs of the log at a place, and the place of its first fault, where it has one
abbrev pub read_at : (ℕ → List ℕ) → ℕ → List Mtr × Option ℕ
read_at files place = log_mtrs (place + 1) (files place)

-- the texts of the logs below a place, in their order, and how many mtrs they have
unfoldable pub texts_below : (ℕ → List ℕ) → ℕ → List ℕ
texts_below files zero = []
texts_below files (suc place) = texts_below files place ++ log_text (place + 1) (read_at files place).0

unfoldable pub mtrs_below : (ℕ → List ℕ) → ℕ → ℕ
mtrs_below files zero = 0
mtrs_below files (suc place) = mtrs_below files place + length (read_at files place).0

-- the last line: how many mtrs there are
abbrev pub mtrs_words : ℕ → List (List ℕ)
mtrs_words total = codes "end" ∷ codes "mtrs" ∷ decimal total ∷ []

-- the text of so many logs
abbrev pub logs_text : (ℕ → List ℕ) → ℕ → List ℕ
logs_text files count = texts_below files count ++ line (mtrs_words (mtrs_below files count))

-- a log that is off the grammar, with the place of its first fault
pub record LogFault : Type 0 where
  pub primary : ℕ
  pub place : ℕ

abbrev pub or_next : Option LogFault → ℕ → Option ℕ → Option LogFault
or_next (Some fault) primary place = Some fault
or_next None primary (Some place) = Some (record { primary = primary; place = place })
or_next None primary None = None

-- the first of the logs below a place that is
unfoldable pub fault_below : (ℕ → List ℕ) → ℕ → Option LogFault
fault_below files zero = None
fault_below files (suc place) = or_next (fault_below files place) (place + 1) (read_at files place).1

-- a refusal of a primary's log, among the other logs
abbrev pub IsRefused : ℕ → LogRefusal → LogsRefusal → Type 0
IsRefused primary (refusals.Fault place) refusal = refusal ≡ Log primary place
IsRefused primary refusals.Disk refusal = refusal ≡ LogDisk primary
IsRefused primary refusals.Memory refusal = refusal ≡ Memory

-- Ok where a log has no fault, and Fault at its first
abbrev pub FindsOwn : {T : Type 0} → Option ℕ → Result T LogRefusal → Type 0
FindsOwn fault (Ok x) = fault ≡ None
FindsOwn fault (Err (refusals.Fault place)) = fault ≡ Some place
FindsOwn fault (Err refusals.Disk) = Unit {0}
FindsOwn fault (Err refusals.Memory) = Unit {0}

module _ {D : Type 0} (g : Ghosts D) where
  -- each log below a place tells its bytes
  abbrev pub TellBelow : ℕ → List D → Type 0
  TellBelow bound logs = (place : ℕ) (log : D) → place < bound → slice_get logs place ≡ Some log → IsTrue (g.tells log)

  -- what printing a primary's log answers, adds to a text, and does with its disk
  pub record Did (primary : ℕ) (text text_after : List ℕ) (result : Result ℕ LogRefusal) (old new : D) : Type 0 where
    pub kept : KeptDisk g old new
    pub printed : IsTrue (g.tells old) → IfOk result (λ count. (text_after ≡ text ++ log_text primary (log_mtrs primary (g.seen old)).0) × (count ≡ length (log_mtrs primary (g.seen old)).0))
    pub finds : IsTrue (g.tells old) → FindsOwn (log_mtrs primary (g.seen old)).1 result
    pub cause : LogCause (g.faults old) (g.faults new) result

  -- the log of a primary is the first off the grammar, first at this place; where it and those before it tell their bytes
  pub record IsFirstFault (fault : LogFault) (logs : List D) : Type 0 where
    pub at : ℕ
    pub its : fault.primary ≡ at + 1
    pub there : at < length logs
    pub first : TellBelow fault.primary logs → fault_below (seen_at g logs) fault.primary ≡ Some fault

  -- the count of faults of a primary's log rose, and no log before it is off the grammar; where they tell their bytes
  pub record IsFirstFailed (primary : ℕ) (old new : List D) : Type 0 where
    pub rose : RoseOf g primary old new
    pub before : TellBelow rose.0 old → fault_below (seen_at g old) rose.0 ≡ None

  -- Ok where no log is off the grammar, and each refusal for its reason
  abbrev pub FindsLogs : {T : Type 0} → Result T LogsRefusal → List D → List D → Type 0
  FindsLogs (Ok text) old new = EachTells g old → fault_below (seen_at g old) (length old) ≡ None
  FindsLogs (Err (Log primary place)) old new = IsFirstFault (record { primary = primary; place = place }) old
  FindsLogs (Err (LogDisk primary)) old new = IsFirstFailed primary old new
  FindsLogs (Err Memory) old new = Unit {0}
