-- What a reader gives of a log.
use Rattle.std.specs.Prelude.{◌≡◌, ℕ, zero, suc, ◌+◌, ◌<◌, ◌≤◌, Bool, true, false, List, [], ◌∷◌, ◌++◌, length, Option, Some, None, Result, Ok, Err}
use Rattle.std.specs.List.{AllByRecursion}
use Rattle.mp_cells.specs.declared.records.Mtr.{Mtr}
use Rattle.mp_cells.specs.Mtrs.{IsMtr}
use Rattle.mp_redo.specs.Reading.{Read}
use Rattle.mp_log.specs.declared.batches.LogPlace.{LogPlace}
use Rattle.mp_log.specs.declared.readers.State.{State}
use Rattle.mp_log.specs.declared.readers.State.TheVariants.{Reading, Ended, Refused}
use Rattle.mp_log.specs.declared.refusals.LogRefusal.{LogRefusal}
use Rattle.mp_log.specs.declared.refusals.LogRefusal.TheVariants as refusals
use Rattle.mp_log.specs.Logs.{batch_bytes, last_after}
use Rattle.mp_log.specs.Reading.{next_at, AreBefore}

-- the mtrs of the whole batches from a gate on, and the place of the fault behind them, where there is one, from the next
-- batch and what `more` gives behind it
abbrev pub given_from : ℕ → ℕ → (ℕ → ℕ → List Mtr × Option ℕ) → Read (Option (List Mtr × ℕ)) → List Mtr × Option ℕ
given_from last gate more (Err place) = ([], Some place)
given_from last gate more (Ok None) = ([], None)
given_from last gate more (Ok (Some next)) = let rest = more (last_after last next.0) (gate + (5 + next.1)) in (next.0 ++ rest.0, rest.1)

abbrev pub given_at : ℕ → ℕ → ℕ → List ℕ → ℕ → List Mtr × Option ℕ
given_at zero node last file gate = ([], Some gate)
given_at (suc fuel) node last file gate = given_from last gate (λ l g. given_at fuel node l file g) (next_at node last file gate)

-- what a reader of a file gives from the front: the mtrs of the batches before the first fault, and its place
abbrev pub log_mtrs : ℕ → List ℕ → List Mtr × Option ℕ
log_mtrs node file = given_at (length file + 1) node 0 file 0

-- a reader: where the next batch stands, the bytes of this one that are left, and whether it has come to an end
pub record ReaderView : Type 0 where
  pub place : LogPlace
  pub bytes : List ℕ
  pub state : State

-- a reader before its first mtr
abbrev pub fresh_reader : ℕ → ReaderView
fresh_reader node = record { place = record { node = node; gate = 0; last = 0 }; bytes = []; state = Reading }

-- what is left for a reader to give of a file
pub record Remains (reader : ReaderView) (file : List ℕ) (mtrs : List Mtr) (fault : Option ℕ) : Type 0 where
  pub reading : reader.state ≡ Reading
  pub fuel : ℕ
  pub enough : length file < fuel + reader.place.gate
  pub batch : List Mtr
  pub bytes : reader.bytes ≡ batch_bytes batch
  pub sound : AllByRecursion IsMtr batch
  pub before : AreBefore reader.place.node reader.place.last reader.place.gate file
  pub mtrs_are : mtrs ≡ batch ++ (given_at fuel reader.place.node reader.place.last file reader.place.gate).0
  pub fault_is : fault ≡ (given_at fuel reader.place.node reader.place.last file reader.place.gate).1

-- what a call gives of what is left: the first mtr, or the end, or the fault, each where it stands
abbrev pub GivesNext : List ℕ → List Mtr → Option ℕ → ReaderView → Result (Option Mtr) LogRefusal → Type 0
GivesNext file mtrs fault new (Ok (Some mtr)) = (rest : List Mtr) × (mtrs ≡ mtr ∷ rest) × Remains new file rest fault
GivesNext file mtrs fault new (Ok None) = (mtrs ≡ []) × (fault ≡ None) × (new.state ≡ Ended)
GivesNext file mtrs fault new (Err (refusals.Fault place)) = (mtrs ≡ []) × (fault ≡ Some place) × (new.state ≡ Refused (refusals.Fault place))
GivesNext file mtrs fault new (Err refusals.Disk) = new.state ≡ Refused refusals.Disk
GivesNext file mtrs fault new (Err refusals.Memory) = new.state ≡ Refused refusals.Memory

-- what reading the next batch answers and leaves
pub record IsLoaded (file : List ℕ) (old new : ReaderView) : Type 0 where
  pub batch : List Mtr
  pub count : ℕ
  pub is : next_at old.place.node old.place.last file old.place.gate ≡ Ok (Some (batch, count))
  pub some : 1 ≤ length batch
  pub sound : AllByRecursion IsMtr batch
  pub bytes : new.bytes ≡ batch_bytes batch
  pub place : new.place ≡ record { node = old.place.node; gate = old.place.gate + (5 + count); last = last_after old.place.last batch }
  pub before : AreBefore old.place.node old.place.last old.place.gate file → AreBefore new.place.node new.place.last new.place.gate file

abbrev pub LoadsNext : List ℕ → ReaderView → ReaderView → Result Bool LogRefusal → Type 0
LoadsNext file old new (Ok true) = IsLoaded file old new
LoadsNext file old new (Ok false) = next_at old.place.node old.place.last file old.place.gate ≡ Ok None
LoadsNext file old new (Err (refusals.Fault place)) = next_at old.place.node old.place.last file old.place.gate ≡ Err place
LoadsNext file old new (Err refusals.Disk) = Unit {0}
LoadsNext file old new (Err refusals.Memory) = Unit {0}

-- what is given of a batch whose first mtr is this one
abbrev pub TakesNext : Mtr → List Mtr → ReaderView → Result Mtr LogRefusal → Type 0
TakesNext mtr rest new (Ok given) = (given ≡ mtr) × (new.bytes ≡ batch_bytes rest)
TakesNext mtr rest new (Err (refusals.Fault place)) = ⊥
TakesNext mtr rest new (Err refusals.Disk) = ⊥
TakesNext mtr rest new (Err refusals.Memory) = Unit {0}

-- what looking for the next mtr answers: there are bytes of a batch, or the end, or the fault
abbrev pub Fills : List ℕ → List Mtr → Option ℕ → ReaderView → Result Bool LogRefusal → Type 0
Fills file mtrs fault new (Ok true) = Remains new file mtrs fault × (1 ≤ length new.bytes)
Fills file mtrs fault new (Ok false) = (mtrs ≡ []) × (fault ≡ None)
Fills file mtrs fault new (Err (refusals.Fault place)) = (mtrs ≡ []) × (fault ≡ Some place)
Fills file mtrs fault new (Err refusals.Disk) = Unit {0}
Fills file mtrs fault new (Err refusals.Memory) = Unit {0}

-- what going on by one mtr answers
abbrev pub Advances : List ℕ → List Mtr → Option ℕ → ReaderView → Result (Option Mtr) LogRefusal → Type 0
Advances file mtrs fault new (Ok (Some mtr)) = (rest : List Mtr) × (mtrs ≡ mtr ∷ rest) × Remains new file rest fault
Advances file mtrs fault new (Ok None) = (mtrs ≡ []) × (fault ≡ None)
Advances file mtrs fault new (Err (refusals.Fault place)) = (mtrs ≡ []) × (fault ≡ Some place)
Advances file mtrs fault new (Err refusals.Disk) = Unit {0}
Advances file mtrs fault new (Err refusals.Memory) = Unit {0}
