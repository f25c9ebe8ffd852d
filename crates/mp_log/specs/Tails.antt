-- The end of a log that is written: what is appended there and not forced yet.
use Rattle.std.specs.Prelude.{◌≡◌, ℕ, ◌-◌, ◌<◌, ◌≤◌, ◌^◌, Bool, List, ◌++◌, length}
use Rattle.std.specs.List.{AllByRecursion}
use Rattle.mp_cells.specs.declared.records.Mtr.{Mtr}
use Rattle.mp_log.specs.Logs.{batch_bytes, batches_text, mtrs_of, last_after, most_batch_bytes, AreLogged, IsBatch, IsText, HoldsOnly}

-- the log's node, the place of its closed gate, the LLSN of its last mtr, whether it takes mtrs, and the bytes of those
-- that were appended
pub record TailView : Type 0 where
  pub node : ℕ
  pub place : ℕ
  pub last : ℕ
  pub live : Bool
  pub bytes : List ℕ

-- how many bytes may still be appended
abbrev pub room_of : TailView → ℕ
room_of tail = most_batch_bytes - length tail.bytes

-- an open log: its disk, its tail, and the LLSNs of the mtrs that were read when it was opened
pub record LogView (D : Type 0) : Type 0 where
  pub disk : D
  pub tail : TailView
  pub llsns : List ℕ

-- a tail that there may be
pub record IsTail (tail : TailView) : Type 0 where
  pub most : length tail.bytes ≤ most_batch_bytes
  pub place : tail.place < 2 ^ 63

-- a log whose tail is this one holds these batches, and these mtrs are appended: what a read gives and what a crash may
-- leave is the text of the batches
pub record LogStands (batches : List (List Mtr)) (pending : List Mtr) (tail : TailView) (seen : List ℕ) (image : List ℕ → Type 0) : Type 0 where
  pub reads : IsText batches seen
  pub images : HoldsOnly batches image
  pub mtrs : AreLogged tail.node (mtrs_of batches ++ pending)
  pub sizes : AllByRecursion IsBatch batches
  pub place : tail.place ≡ length (batches_text batches)
  pub last : tail.last ≡ last_after 0 (mtrs_of batches ++ pending)
  pub bytes : tail.bytes ≡ batch_bytes pending
