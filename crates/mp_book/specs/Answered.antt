-- What of an answer rests on those above it in its primary's list.
use Rattle.std.specs.Prelude.{◌≡◌, ◌≢◌, ℕ, true, false, List, [], ◌∷◌, ◌++◌, Some, IfSome, MatchOption}
use Rattle.std.specs.List.{list_any, AllByRecursion}
use Rattle.mp_model.specs.declared.ids.TrxName.{TrxName}
use Rattle.mp_model.specs.declared.replies.Answer.{Answer}
use Rattle.mp_model.specs.declared.replies.Reply.{Reply}
use Rattle.mp_model.specs.declared.replies.Reply.TheVariants.{Committed, CommittedNone, Unknown, Held}
use Rattle.mp_model.specs.declared.transcripts.Mode.TheVariants.{Step}
use Rattle.mp_script.specs.declared.statements.Line.{Line}
use Rattle.mp_script.specs.declared.statements.SessionOn.{SessionOn}
use Rattle.mp_script.specs.declared.statements.Stmt.{Stmt}
use Rattle.mp_script.specs.Execution.{Execution, line_at, runs_on}
use Rattle.mp_script.specs.Transactions.{target_of, refused_before}
use Rattle.mp_script.specs.Right.{HasWritten, HasOwnWrite, HasNoOwnWrite, FollowsRefusal, IsWithoutRepeat}
use Rattle.mp_script.specs.InTheirPart.{IsNextStatement}
use Rattle.mp_script.specs.WentDown.{shows_down, is_stopped}

-- an execution of which no more is known than these answers to a script's statements
abbrev pub execution_above : List Line → List SessionOn → List Answer → Execution
execution_above lines sessions answers = record {
  primaries = 0;
  sessions = sessions;
  lines = lines;
  opening = record { base = 0; taken = 0; rows = record { items = []; spare = 0 } };
  mode = Step;
  base = 0;
  parts = [];
  answers = answers;
  downs = [];
  commits = 0;
}

-- no answer shows the primary down
abbrev pub NoneShowsDown : List Answer → Type 0
NoneShowsDown answers = list_any (λ a. shows_down a.reply) answers ≡ false

-- where a transaction is of the primary, it has a write of the key that was answered ok
abbrev pub HasWrittenHere : Execution → ℕ → ℕ → TrxName → Type 0
HasWrittenHere run primary key name = runs_on run name.session primary ≡ true → HasWritten run name key

-- the transactions that a statement waited for, each once, have written its key; only a write waits
abbrev pub WaitsStand : Execution → ℕ → Stmt → List TrxName → Type 0
WaitsStand run primary stmt waits = MatchOption (target_of stmt) (waits ≡ []) (λ target. IsWithoutRepeat waits × AllByRecursion (HasWrittenHere run primary target.key) waits)

-- the transaction that holds a key has written it
abbrev pub HolderStands : Execution → ℕ → Stmt → Reply → Type 0
HolderStands run primary stmt (Held verb name) = IfSome (target_of stmt) (λ target. HasWrittenHere run primary target.key name)
HolderStands run primary stmt _ = Unit {0}

-- a commit's answer tells whether its transaction wrote
abbrev pub CommitTellsWrites : Execution → Line → Reply → Type 0
CommitTellsWrites run line (Committed cts) = HasOwnWrite run line
CommitTellsWrites run line (Unknown cts) = HasOwnWrite run line
CommitTellsWrites run line CommittedNone = HasNoOwnWrite run line
CommitTellsWrites run line _ = Unit {0}

-- An answer of a primary stands rightly below those above it
pub record IsPlaced (lines : List Line) (sessions : List SessionOn) (primary : ℕ) (above : List Answer) (answer : Answer) : Type 0 where
  pub next : IsNextStatement (execution_above lines sessions above) primary above answer
  pub line : Line
  pub found : line_at lines answer.session answer.index ≡ Some line
  pub follows : FollowsRefusal (refused_before (execution_above lines sessions above) answer.session answer.index) answer.reply
  pub stays_down : list_any (λ a. shows_down a.reply) above ≡ true → is_stopped answer.reply ≡ true
  pub commits : CommitTellsWrites (execution_above lines sessions above) line answer.reply
  pub waits : WaitsStand (execution_above lines sessions above) primary line.stmt answer.waits.items
  pub holder : HolderStands (execution_above lines sessions above) primary line.stmt answer.reply
