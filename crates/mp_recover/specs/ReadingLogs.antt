-- Reading logs to their ends: which log is the first off its grammar. The log of primary n has the place n - 1.
use Rattle.std.specs.Prelude.{◌≡◌, ℕ, ◌+◌, ◌<◌, List, Option, Some, None, Result, Ok, Err, IsTrue}
use Rattle.mp_outside.specs.declared.disks.Disk.{Ghosts}
use Rattle.mp_files.specs.Nine.{KeptDisk}
use Rattle.mp_log.specs.declared.refusals.LogRefusal.{LogRefusal}
use Rattle.mp_log.specs.declared.refusals.LogRefusal.TheVariants as refusals
use Rattle.mp_log.specs.Reading.{LogCause}
use Rattle.mp_log.specs.Readers.{log_mtrs}
use Rattle.mp_recover.specs.declared.refusals.RecoverRefusal.{RecoverRefusal}
use Rattle.mp_recover.specs.declared.refusals.RecoverRefusal.TheVariants as recover
use Rattle.mp_recover.specs.Merging.{fault_at, IsOffAt}

-- Ok where there is no fault, and `Fault` at its place
abbrev pub ReadsToEnd : Option ℕ → Result (Unit {0}) LogRefusal → Type 0
ReadsToEnd fault (Ok x) = fault ≡ None
ReadsToEnd fault (Err (refusals.Fault place)) = fault ≡ Some place
ReadsToEnd fault (Err refusals.Disk) = Unit {0}
ReadsToEnd fault (Err refusals.Memory) = Unit {0}

-- what reading a primary's log does with its disk, and answers
pub record DidRead {D : Type 0} (g : Ghosts D) (primary : ℕ) (result : Result (Unit {0}) LogRefusal) (old new : D) : Type 0 where
  pub kept : KeptDisk g old new
  pub finds : IsTrue (g.tells old) → ReadsToEnd (log_mtrs primary (g.seen old)).1 result
  pub cause : LogCause (g.faults old) (g.faults new) result

-- no log below a place is off the grammar
abbrev pub SoundBelow : (ℕ → List ℕ) → ℕ → Type 0
SoundBelow files bound = (place : ℕ) → place < bound → fault_at files place ≡ None

-- a refusal of a primary's log, one of eight, and none for those before it
abbrev pub RefusesFirst : (ℕ → List ℕ) → RecoverRefusal → Type 0
RefusesFirst files (recover.Log primary fault) = (off : IsOffAt files primary fault) × SoundBelow files off.0
RefusesFirst files (recover.LogDisk primary) = (place : ℕ) × (primary ≡ place + 1) × SoundBelow files place
RefusesFirst files recover.Memory = Unit {0}
RefusesFirst files _ = ⊥

-- reading eight logs: none is off the grammar, or the first that is one
abbrev pub ReadsAll : (ℕ → List ℕ) → Result (Unit {0}) RecoverRefusal → Type 0
ReadsAll files (Ok x) = SoundBelow files 8
ReadsAll files (Err refusal) = RefusesFirst files refusal
