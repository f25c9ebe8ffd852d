-- What a log holds: batches of mtrs, each behind an open gate, and then a closed gate.
use Rattle.std.specs.Prelude.{◌≡◌, ◌≢◌, ◌⊎◌, ℕ, ◌≤◌, ◌^◌, ◌==◌, not, Bool, false, if◌then◌else◌, List, [], ◌∷◌, ◌++◌, length, slice_get, Option, Some, None, IsTrue}
use Rattle.std.specs.List.{flat_map, AllByRecursion}
use Rattle.byteorder.specs.Endian.{little_bytes}
use Rattle.mp_cells.specs.declared.records.Mtr.{Mtr}
use Rattle.mp_cells.specs.Keys.{rises}
use Rattle.mp_cells.specs.Mtrs.{IsMtr}
use Rattle.mp_redo.specs.Spelling.{mtr_bytes}

-- an open gate; every other byte is a closed one
abbrev pub open_gate : ℕ
open_gate = 165

-- the first byte of a file, where it has one, is an open gate, or is a closed one
abbrev pub is_open_gate : Option ℕ → Bool
is_open_gate None = false
is_open_gate (Some gate) = gate == open_gate

abbrev pub is_closed_gate : Option ℕ → Bool
is_closed_gate None = false
is_closed_gate (Some gate) = not (gate == open_gate)

-- how many calls of its disk a file takes to be emptied: six where its first gate is open, which is read and then closed;
-- five where it is closed already, or where there is none to be read
abbrev pub reset_calls : List ℕ → ℕ
reset_calls file = if is_open_gate (slice_get file 0) then 6 else 5

-- the most bytes of mtrs in a batch
abbrev pub most_batch_bytes : ℕ
most_batch_bytes = 65536

-- the mtrs of a batch, one after another
abbrev pub batch_bytes : List Mtr → List ℕ
batch_bytes batch = flat_map mtr_bytes batch

-- a batch: its open gate, the count of its bytes, and they
abbrev pub batch_text : List Mtr → List ℕ
batch_text batch = open_gate ∷ (little_bytes 4 (length (batch_bytes batch)) ++ batch_bytes batch)

-- batches, one after another
abbrev pub batches_text : List (List Mtr) → List ℕ
batches_text batches = flat_map batch_text batches

-- the file is the text of these batches, then a closed gate, then anything
pub record IsText (batches : List (List Mtr)) (file : List ℕ) : Type 0 where
  pub gate : ℕ
  pub rest : List ℕ
  pub closed : gate ≢ open_gate
  pub whole : file ≡ batches_text batches ++ gate ∷ rest

-- the mtrs of batches, in their order
abbrev pub mtrs_of : List (List Mtr) → List Mtr
mtrs_of batches = flat_map (λ batch. batch) batches

-- an mtr of a primary's log
abbrev pub IsOf : ℕ → Mtr → Type 0
IsOf node mtr = IsMtr mtr × (mtr.node ≡ node)

-- mtrs that a primary's log may hold, in this order: their LLSNs rise
pub record AreLogged (node : ℕ) (mtrs : List Mtr) : Type 0 where
  pub each : AllByRecursion (IsOf node) mtrs
  pub rising : IsTrue (rises (λ mtr. mtr.llsn) 1 (2 ^ 62) mtrs)

-- a batch has an mtr, and isn't too long
abbrev pub IsBatch : List Mtr → Type 0
IsBatch batch = (1 ≤ length batch) × (length (batch_bytes batch) ≤ most_batch_bytes)

-- batches that a primary's log may hold
pub record IsLog (node : ℕ) (batches : List (List Mtr)) : Type 0 where
  pub mtrs : AreLogged node (mtrs_of batches)
  pub sizes : AllByRecursion IsBatch batches

-- the LLSN of the last of some mtrs, or the one before them
abbrev pub last_after : ℕ → List Mtr → ℕ
last_after llsn [] = llsn
last_after llsn (mtr ∷ mtrs) = last_after mtr.llsn mtrs

-- the batches with one more, where it has an mtr
abbrev pub with_batch : List (List Mtr) → List Mtr → List (List Mtr)
with_batch batches [] = batches
with_batch batches (mtr ∷ mtrs) = batches ++ (mtr ∷ mtrs) ∷ []

-- what a crash may leave is the text of these batches, in each case
abbrev pub HoldsOnly : List (List Mtr) → (List ℕ → Type 0) → Type 0
HoldsOnly batches image = (c : List ℕ) → image c → IsText batches c

-- or the text of these or of those
abbrev pub HoldsEither : List (List Mtr) → List (List Mtr) → (List ℕ → Type 0) → Type 0
HoldsEither batches others image = (c : List ℕ) → image c → IsText batches c ⊎ IsText others c
