-- What a log's file is read as: its batches, or the place of the first fault.
use Rattle.std.specs.Prelude.{ℕ, zero, suc, ◌+◌, ◌^◌, ◌==◌, ◌&&◌, nat_le, nat_lt, if◌then◌else◌, ◌≡◌, Bool, List, [], ◌∷◌, ◌++◌, length, map, take, drop, slice_index, Option, Some, None, Result, Ok, Err, IsTrue}
use Rattle.std.specs.List.{AllByRecursion}
use Rattle.mp_outside.specs.Faults.{Rose}
use Rattle.mp_cells.specs.declared.records.Mtr.{Mtr}
use Rattle.mp_cells.specs.Keys.{rises}
use Rattle.mp_cells.specs.Numbers.{number_at}
use Rattle.mp_redo.specs.Reading.{Read, and_then, field, mtr_at, fault_of}
use Rattle.mp_log.specs.declared.refusals.LogRefusal.{LogRefusal}
use Rattle.mp_log.specs.declared.refusals.LogRefusal.TheVariants.{Fault, Disk, Memory}
use Rattle.mp_log.specs.Logs.{open_gate, most_batch_bytes, batch_bytes, batch_text, batches_text, mtrs_of, last_after, IsOf, IsBatch, IsLog, IsText}

-- whether the gate at a place is open; a fault there where the file ends
abbrev pub gate_at : List ℕ → ℕ → Read Bool
gate_at file place = field place (nat_lt place (length file)) (slice_index file place == open_gate)

-- a count of bytes that a batch may have, with the next gate behind them in a file of this size
abbrev pub is_batch_count : ℕ → ℕ → ℕ → Bool
is_batch_count size gate count = nat_le 1 count && nat_le count most_batch_bytes && nat_le (gate + (6 + count)) size

-- how many bytes the batch behind the gate at a place has
abbrev pub count_at : List ℕ → ℕ → Read ℕ
count_at file gate = let count = number_at (gate + 1) 4 file in field (gate + 1) (nat_le (gate + 5) (length file) && is_batch_count (length file) gate count) count

-- the same where the gate is open; none where it is closed
abbrev pub open_at : List ℕ → ℕ → Read (Option ℕ)
open_at file gate = and_then (gate_at file gate) (λ is_open. if is_open then and_then (count_at file gate) (λ count. Ok (Some count)) else Ok None)

-- what was read of a part, by its place in the file
abbrev pub from_place : {A : Type 0} → ℕ → Read A → Read A
from_place place (Ok x) = Ok x
from_place place (Err fault) = Err (place + fault)

-- the mtrs that these bytes are, which lie from a place on: each is of the node and has an LLSN above the one before
abbrev pub mtrs_at : ℕ → ℕ → ℕ → List ℕ → ℕ → Read (List Mtr)
mtrs_at fuel node last [] place = Ok []
mtrs_at zero node last (byte ∷ bytes) place = Err place
mtrs_at (suc fuel) node last (byte ∷ bytes) place =
    and_then (from_place place (mtr_at (byte ∷ bytes))) (λ found.
    and_then (field place (found.0.node == node && nat_lt last found.0.llsn) found.0) (λ mtr.
    and_then (mtrs_at fuel node mtr.llsn (drop found.1 (byte ∷ bytes)) (place + found.1)) (λ mtrs.
    Ok (mtr ∷ mtrs))))

-- the mtrs of the batch behind the gate at a place, with so many bytes
abbrev pub batch_at : ℕ → ℕ → List ℕ → ℕ → ℕ → Read (List Mtr)
batch_at node last file gate count = mtrs_at count node last (take count (drop (gate + 5) file)) (gate + 5)

-- the next batch and the count of its bytes; none where the gate is closed
abbrev pub batch_behind : ℕ → ℕ → List ℕ → ℕ → Option ℕ → Read (Option (List Mtr × ℕ))
batch_behind node last file gate None = Ok None
batch_behind node last file gate (Some count) = and_then (batch_at node last file gate count) (λ batch. Ok (Some (batch, count)))

abbrev pub next_at : ℕ → ℕ → List ℕ → ℕ → Read (Option (List Mtr × ℕ))
next_at node last file gate = and_then (open_at file gate) (λ count. batch_behind node last file gate count)

-- the batches from a gate on, and the place of the closed gate behind them, where `more` gives those behind the next
abbrev pub batches_from : ℕ → ℕ → (ℕ → ℕ → Read (List (List Mtr) × ℕ)) → Option (List Mtr × ℕ) → Read (List (List Mtr) × ℕ)
batches_from last gate more None = Ok ([], gate)
batches_from last gate more (Some next) = and_then (more (last_after last next.0) (gate + (5 + next.1))) (λ rest. Ok (next.0 ∷ rest.0, rest.1))

abbrev pub batches_at : ℕ → ℕ → ℕ → List ℕ → ℕ → Read (List (List Mtr) × ℕ)
batches_at zero node last file gate = Err gate
batches_at (suc fuel) node last file gate = and_then (next_at node last file gate) (λ next. batches_from last gate (λ l g. batches_at fuel node l file g) next)

-- the batches of a node's log; a batch takes more than one byte of the file
abbrev pub log_at : ℕ → List ℕ → Read (List (List Mtr) × ℕ)
log_at node file = batches_at (length file + 1) node 0 file 0

-- the place of the first fault, where the file is no log of the node
abbrev pub log_fault : ℕ → List ℕ → Option ℕ
log_fault node file = fault_of (log_at node file)

-- the batches of a primary's log that stand before a gate, of whose mtrs the last has this LLSN
pub record AreBefore (node last gate : ℕ) (file : List ℕ) : Type 0 where
  pub batches : List (List Mtr)
  pub log : IsLog node batches
  pub split : file ≡ batches_text batches ++ drop gate file
  pub gate_is : gate ≡ length (batches_text batches)
  pub last_is : last ≡ last_after 0 (mtrs_of batches)

-- an answer that says what was read, unless the disk failed or there was no memory
abbrev pub Tells : {A : Type 0} → Read A → Result A LogRefusal → Type 0
Tells read (Ok x) = read ≡ Ok x
Tells read (Err (Fault place)) = read ≡ Err place
Tells read (Err Disk) = Unit {0}
Tells read (Err Memory) = Unit {0}

-- a refusal by the disk comes only where its count of faults rose
abbrev pub LogCause : {A : Type 0} → ℕ → ℕ → Result A LogRefusal → Type 0
LogCause old new (Ok x) = Unit {0}
LogCause old new (Err (Fault place)) = Unit {0}
LogCause old new (Err Disk) = Rose old new
LogCause old new (Err Memory) = Unit {0}

-- what a check of a batch's bytes answers and adds to a list of LLSNs: they are the bytes of these mtrs of the node
pub record AreChecked (read : Read (List Mtr)) (bytes : List ℕ) (node last : ℕ) (old new : List ℕ) (end : ℕ) : Type 0 where
  pub mtrs : List Mtr
  pub is : read ≡ Ok mtrs
  pub spelled : bytes ≡ batch_bytes mtrs
  pub each : AllByRecursion (IsOf node) mtrs
  pub rising : IsTrue (rises (λ mtr. mtr.llsn) (last + 1) (2 ^ 62) mtrs)
  pub end_is : end ≡ last_after last mtrs
  pub added : new ≡ old ++ map (λ mtr. mtr.llsn) mtrs

abbrev pub Checks : Read (List Mtr) → List ℕ → ℕ → ℕ → List ℕ → List ℕ → Result ℕ LogRefusal → Type 0
Checks read bytes node last old new (Ok end) = AreChecked read bytes node last old new end
Checks read bytes node last old new (Err (Fault place)) = read ≡ Err place
Checks read bytes node last old new (Err Disk) = ⊥
Checks read bytes node last old new (Err Memory) = Unit {0}

-- what the next batch is, with its count of bytes and the LLSN of its last mtr
pub record IsNextBatch (node last : ℕ) (file : List ℕ) (gate : ℕ) (old new : List ℕ) (count end : ℕ) : Type 0 where
  pub batch : List Mtr
  pub is : next_at node last file gate ≡ Ok (Some (batch, count))
  pub spelled : drop gate file ≡ batch_text batch ++ drop (gate + (5 + count)) file
  pub count_is : count ≡ length (batch_bytes batch)
  pub sized : IsBatch batch
  pub each : AllByRecursion (IsOf node) batch
  pub rising : IsTrue (rises (λ mtr. mtr.llsn) (last + 1) (2 ^ 62) batch)
  pub end_is : end ≡ last_after last batch
  pub added : new ≡ old ++ map (λ mtr. mtr.llsn) batch

abbrev pub Nexts : ℕ → ℕ → List ℕ → ℕ → List ℕ → List ℕ → Result (Option (ℕ × ℕ)) LogRefusal → Type 0
Nexts node last file gate old new (Ok None) = (next_at node last file gate ≡ Ok None) × (new ≡ old)
Nexts node last file gate old new (Ok (Some next)) = IsNextBatch node last file gate old new next.0 next.1
Nexts node last file gate old new (Err (Fault place)) = next_at node last file gate ≡ Err place
Nexts node last file gate old new (Err Disk) = Unit {0}
Nexts node last file gate old new (Err Memory) = Unit {0}

-- what a whole log is: its batches, the place of its closed gate, and the LLSN of its last mtr
pub record IsReadLog (node : ℕ) (file old new : List ℕ) (place last : ℕ) : Type 0 where
  pub batches : List (List Mtr)
  pub log : IsLog node batches
  pub text : IsText batches file
  pub place_is : place ≡ length (batches_text batches)
  pub last_is : last ≡ last_after 0 (mtrs_of batches)
  pub added : new ≡ old ++ map (λ mtr. mtr.llsn) (mtrs_of batches)

abbrev pub ReadsLog : ℕ → List ℕ → List ℕ → List ℕ → Result (ℕ × ℕ) LogRefusal → Type 0
ReadsLog node file old new (Ok end) = IsReadLog node file old new end.0 end.1
ReadsLog node file old new (Err (Fault place)) = log_at node file ≡ Err place
ReadsLog node file old new (Err Disk) = Unit {0}
ReadsLog node file old new (Err Memory) = Unit {0}
