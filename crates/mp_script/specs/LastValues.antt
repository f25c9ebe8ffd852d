-- The value of a key after writes, and after the commits that a view shows.
use Rattle.std.specs.Prelude.{◌≡◌, ℕ, ◌==◌, ◌<◌, ◌≤◌, ◌⊎◌, if◌then◌else◌, List, [], ◌∷◌, Option, Some, None}
use Rattle.mp_model.specs.declared.key_value.KeyWrite.{KeyWrite}
use Rattle.mp_model.specs.declared.ids.TrxName.{TrxName}
use Rattle.mp_model.specs.declared.replies.Answer.{Answer}
use Rattle.mp_model.specs.Folded.{value_at}
use Rattle.mp_script.specs.Execution.{Execution}
use Rattle.mp_script.specs.Transactions.{trx_of, view_of, statements_before}
use Rattle.mp_script.specs.Seen.{writes_among, acknowledgement, rows_of_view}

-- the one, or else the other
abbrev pub or_else_value : {T : Type 0} → Option T → Option T → Option T
or_else_value None other = other
or_else_value (Some value) other = Some value

-- the value that the last write of a key sets, or that it sets none; nothing where no write is of the key
abbrev pub last_value : ℕ → List KeyWrite → Option (Option (List ℕ))
last_value key [] = None
last_value key (write ∷ writes) = or_else_value (last_value key writes) (if write.key == key then Some write.value else None)

-- the value after writes, by what the last of them sets and the value before them
abbrev pub value_over : Option (Option (List ℕ)) → Option (List ℕ) → Option (List ℕ)
value_over None old = old
value_over (Some value) old = value

-- the writes of a transaction's first statements behind its `begin`, over the rows of its view
abbrev pub first_writes : Execution → TrxName → ℕ → List KeyWrite
first_writes run trx count = let rows = rows_of_view run trx in writes_among run (λ index. rows) trx count

-- the writes of the acknowledged commit with a number, where there is one
abbrev pub writes_acknowledged : Execution → Option Answer → List KeyWrite
writes_acknowledged run None = []
writes_acknowledged run (Some answer) = first_writes run (trx_of run answer) (statements_before (trx_of run answer) answer.index)

abbrev pub writes_of_commit : Execution → ℕ → List KeyWrite
writes_of_commit run number = writes_acknowledged run (acknowledgement run.answers number)

-- no commit after the base or after a number, up to a view, wrote the key
abbrev pub NoCommitWrites : Execution → ℕ → ℕ → ℕ → Type 0
NoCommitWrites run after view key = (number : ℕ) → after < number → number ≤ view → last_value key (writes_of_commit run number) ≡ None

-- the latest commit up to a view that wrote the key set this
pub record IsLatestWrite (run : Execution) (view key : ℕ) (value : Option (List ℕ)) : Type 0 where
  pub number : ℕ
  pub above_base : run.opening.base < number
  pub in_view : number ≤ view
  pub sets : last_value key (writes_of_commit run number) ≡ Some value
  pub latest : NoCommitWrites run number view key

-- a view shows this value of the key: what the latest commit in it that wrote the key set, or the opening's
abbrev pub IsValueInView : Execution → ℕ → ℕ → Option (List ℕ) → Type 0
IsValueInView run view key value = IsLatestWrite run view key value ⊎ (NoCommitWrites run run.opening.base view key × (value ≡ value_at key run.opening.rows.items))

-- each acknowledged commit has a view from the base on and below its number
abbrev pub CommitsAboveViews : Execution → Type 0
CommitsAboveViews run = (number : ℕ) (answer : Answer) → acknowledgement run.answers number ≡ Some answer → (run.opening.base ≤ view_of run (trx_of run answer)) × (view_of run (trx_of run answer) < number)
