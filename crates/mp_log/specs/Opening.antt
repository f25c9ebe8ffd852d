-- What the opening of a log answers.
use Rattle.std.specs.Prelude.{◌≡◌, ℕ, ◌≤◌, List, [], ◌∷◌, map, Option, Some, None, if◌then◌else◌, nat_lt, Result, Ok, Err}
use Rattle.mp_cells.specs.declared.records.Mtr.{Mtr}
use Rattle.mp_log.specs.declared.refusals.LogRefusal.{LogRefusal}
use Rattle.mp_log.specs.declared.refusals.LogRefusal.TheVariants.{Fault, Disk, Memory}
use Rattle.mp_log.specs.declared.opening.Opened.{Opened}
use Rattle.mp_log.specs.Logs.{mtrs_of, IsLog}
use Rattle.mp_log.specs.Tails.{TailView, LogStands}
use Rattle.mp_log.specs.Reading.{log_at}

-- a log that was opened holds these batches, all of which were read, and nothing is appended
pub record IsOpened (node : ℕ) (tail : TailView) (llsns : List ℕ) (seen : List ℕ) (image : List ℕ → Type 0) : Type 0 where
  pub batches : List (List Mtr)
  pub log : IsLog node batches
  pub stands : LogStands batches [] tail seen image
  pub llsns_are : llsns ≡ map (λ mtr. mtr.llsn) (mtrs_of batches)

abbrev pub OpensLog : ℕ → List ℕ → List ℕ → (List ℕ → Type 0) → Result Opened LogRefusal → Type 0
OpensLog node file seen image (Ok opened) = IsOpened node opened.tail opened.llsns.items seen image
OpensLog node file seen image (Err (Fault place)) = log_at node file ≡ Err place
OpensLog node file seen image (Err Disk) = Unit {0}
OpensLog node file seen image (Err Memory) = Unit {0}

-- the LLSN of a batch's last mtr, or the one before, where there is no batch
abbrev pub last_or : ℕ → Option (ℕ × ℕ) → ℕ
last_or last None = last
last_or last (Some next) = next.1

-- the least of rising LLSNs that is above one
abbrev pub first_above : ℕ → List ℕ → Option ℕ
first_above llsn [] = None
first_above llsn (other ∷ others) = if nat_lt llsn other then Some other else first_above llsn others

-- the last LLSN isn't above one that none of these is above
abbrev pub IsTied : ℕ → List ℕ → Type 0
IsTied last llsns = (llsn : ℕ) → first_above llsn llsns ≡ None → last ≤ llsn
