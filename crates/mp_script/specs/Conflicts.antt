-- Commits and writes of one key: first committer wins, no write over a commit that its view doesn't show, and none between
-- another transaction's write and its commit.
use Rattle.std.specs.Prelude.{◌≡◌, ◌≢◌, ℕ, ◌<◌, ◌≤◌, true, ◌&&◌, List, Some}
use Rattle.std.specs.List.{AllByRecursion}
use Rattle.mp_model.specs.declared.ids.TrxName.{TrxName}
use Rattle.mp_model.specs.declared.replies.Answer.{Answer}
use Rattle.mp_script.specs.Execution.{Execution}
use Rattle.mp_script.specs.Transactions.{trx_of, same_trx, view_at, cts_of, acknowledged_cts, is_number, wrote_at, wrote_before}
use Rattle.mp_script.specs.Below.{from_first}

-- the answer commits a write of the key with this number, maybe with unknown end
pub record CommitsKey (run : Execution) (answer : Answer) (key number : ℕ) : Type 0 where
  pub shows : cts_of answer.reply ≡ Some number
  pub wrote : wrote_before run answer.session answer.index key ≡ true

-- the answer acknowledges a commit that wrote the key, with this number
pub record AcknowledgesKey (run : Execution) (answer : Answer) (key number : ℕ) : Type 0 where
  pub shows : acknowledged_cts answer.reply ≡ Some number
  pub wrote : wrote_before run answer.session answer.index key ≡ true

-- of a key that a commit wrote, no other commit lies between the commit's view and its number
abbrev pub FirstCommitterWins : Execution → Answer → Answer → Type 0
FirstCommitterWins run answer other = (key number between : ℕ) → CommitsKey run answer key number → CommitsKey run other key between → view_at run answer.session answer.index < between → between < number → ⊥

-- an ok write of a key stands below no other transaction's commit of the key that its view doesn't show
abbrev pub SeesEarlierCommits : Execution → List Answer → Answer → Type 0
SeesEarlierCommits run above answer = (key : ℕ) → wrote_at run answer.session answer.index ≡ Some key
    → AllByRecursion (λ other. (number : ℕ) → AcknowledgesKey run other key number → trx_of run other ≢ trx_of run answer → number ≤ view_at run answer.session answer.index) above

-- the answers from a transaction's first ok write of a key on
abbrev pub since_first_write : Execution → TrxName → ℕ → List Answer → List Answer
since_first_write run trx key answers = from_first (λ other. same_trx (trx_of run other) trx && is_number key (wrote_at run other.session other.index)) answers

-- between a transaction's first ok write of a key and its commit no other's ok write of the key stands
abbrev pub HoldsItsKeys : Execution → List Answer → Answer → Type 0
HoldsItsKeys run above answer = (key number : ℕ) → acknowledged_cts answer.reply ≡ Some number
    → AllByRecursion (λ other. wrote_at run other.session other.index ≡ Some key → trx_of run other ≡ trx_of run answer) (since_first_write run (trx_of run answer) key above)
