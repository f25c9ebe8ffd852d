-- Commits that recovery keeps of a run are closed: each was answered, and all are there that another one rests on.
use Rattle.std.specs.Prelude.{◌≡◌, ◌⊎◌, ℕ, ◌<◌, ◌==◌, nat_le, Bool, true, false, List, map, Option, Some}
use Rattle.std.specs.List.{list_any, AllByRecursion}
use Rattle.mp_model.specs.declared.key_value.KeyValue.{KeyValue}
use Rattle.mp_model.specs.declared.key_value.KeyWrite.{KeyWrite}
use Rattle.mp_model.specs.declared.replies.Answer.{Answer}
use Rattle.mp_model.specs.Folded.{over, value_at}
use Rattle.mp_script.specs.declared.statements.Stmt.{Stmt}
use Rattle.mp_script.specs.declared.statements.Stmt.TheVariants.{Get, Scan, Copy}
use Rattle.mp_script.specs.Execution.{Execution, stmt_at, answer_at}
use Rattle.mp_script.specs.Transactions.{trx_of, trx_at, cts_of, acknowledged_cts, wrote_before}
use Rattle.mp_script.specs.Seen.{own_writes, rows_of_view}
use Rattle.mp_script.specs.Conflicts.{AcknowledgesKey}
use Rattle.mp_recover.specs.KeptCommits.{KeptCommit, write_of}

-- a commit with this timestamp is kept
abbrev pub is_kept : List KeptCommit → ℕ → Bool
is_kept commits number = list_any (λ k. k.cts == number) commits

-- over whatever rows, writes leave the same value of each key
abbrev pub SameWrites : List KeyWrite → List KeyWrite → Type 0
SameWrites some others = (rows : List KeyValue) (key : ℕ) → value_at key (over rows some) ≡ value_at key (over rows others)

-- what an answer's transaction wrote before it
abbrev pub writes_of_answer : Execution → Answer → List KeyWrite
writes_of_answer run answer = let trx = trx_of run answer in own_writes run (λ index. rows_of_view run trx) trx answer.index

-- the run has an answer that commits this, maybe with unknown end: with its timestamp and its writes
pub record WasCommitted (run : Execution) (k : KeptCommit) : Type 0 where
  pub answer : Answer
  pub told : answer_at run.answers answer.session answer.index ≡ Some answer
  pub number : cts_of answer.reply ≡ Some k.cts
  pub writes : SameWrites (map write_of k.puts) (writes_of_answer run answer)

-- a statement reads a key; a scan reads each from its first one on
abbrev pub reads_key : ℕ → Option Stmt → Bool
reads_key key (Some (Get other)) = other == key
reads_key key (Some (Scan low most)) = nat_le low key
reads_key key (Some (Copy from to)) = from == key
reads_key key _ = false

-- a statement of the answer's transaction reads the key
pub record ReadsKey (run : Execution) (answer : Answer) (key : ℕ) : Type 0 where
  pub index : ℕ
  pub its : trx_at run answer.session index ≡ trx_of run answer
  pub reads : reads_key key (stmt_at run answer.session index) ≡ true

-- a commit may rest on an acknowledged one with a lower number: of a key that it read, or that it wrote over
pub record RestsOn (run : Execution) (answer : Answer) (cts number : ℕ) : Type 0 where
  pub other : Answer
  pub told : answer_at run.answers other.session other.index ≡ Some other
  pub below : number < cts
  pub key : ℕ
  pub acknowledged : AcknowledgesKey run other key number
  pub touches : ReadsKey run answer key ⊎ (wrote_before run answer.session answer.index key ≡ true)

-- each acknowledged commit is kept, each kept one was committed, and what it rests on is kept with it
pub record KeptAreClosed (run : Execution) (commits : List KeptCommit) : Type 0 where
  pub acknowledged : AllByRecursion (λ answer. (number : ℕ) → acknowledged_cts answer.reply ≡ Some number → is_kept commits number ≡ true) run.answers
  pub committed : AllByRecursion (WasCommitted run) commits
  pub rests : AllByRecursion (λ k. (answer : Answer) → answer_at run.answers answer.session answer.index ≡ Some answer → cts_of answer.reply ≡ Some k.cts
      → (number : ℕ) → RestsOn run answer k.cts number → is_kept commits number ≡ true) commits
