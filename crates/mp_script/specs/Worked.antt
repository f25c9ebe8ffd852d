-- Small scripts and transcripts, written short: a statement and an answer by its session alone.
use Rattle.std.specs.Prelude.{ℕ, ◌+◌, List, [], ◌∷◌, ◌++◌, length}
use Rattle.mp_model.specs.Listed.{Listed}
use Rattle.mp_model.specs.declared.histories.Opening.{Opening}
use Rattle.mp_model.specs.declared.ids.TrxName.{TrxName}
use Rattle.mp_model.specs.declared.key_value.KeyValue.{KeyValue}
use Rattle.mp_model.specs.declared.replies.Answer.{Answer}
use Rattle.mp_model.specs.declared.replies.Reply.{Reply}
use Rattle.mp_model.specs.declared.transcripts.Down.{Down}
use Rattle.mp_model.specs.declared.transcripts.Mode.TheVariants.{Step, Run}
use Rattle.mp_script.specs.declared.statements.Line.{Line}
use Rattle.mp_script.specs.declared.statements.Script.{Script}
use Rattle.mp_script.specs.declared.statements.SessionOn.{SessionOn}
use Rattle.mp_script.specs.declared.statements.Stmt.{Stmt}
use Rattle.mp_script.specs.Below.{answered}
use Rattle.mp_script.specs.Entries.{statements}
use Rattle.mp_script.specs.Execution.{Execution, execution_of}

abbrev pub all_of : {T : Type 0} → List T → Listed T
all_of items = record { items = items; spare = 0 }

-- statements by session, each numbered behind those above it
abbrev pub lines_below : List Line → List (ℕ × Stmt) → List Line
lines_below above [] = above
lines_below above (said ∷ more) = lines_below (above ++ record { session = said.0; index = statements above said.0 + 1; stmt = said.1 } ∷ []) more

-- the script of sessions 1, 2, .. on these primaries
abbrev pub script_on : ℕ → List SessionOn → List (ℕ × Stmt) → Script
script_on primaries sessions said = record { primaries = primaries; sessions = all_of sessions; lines = all_of (lines_below [] said) }

abbrev pub on : ℕ → ℕ → SessionOn
on session primary = record { session = session; primary = primary }

-- a reply to a session, and the transactions that were waited for
pub record ReplyTo : Type 0 where
  pub session : ℕ
  pub reply : Reply
  pub waits : List TrxName

abbrev pub reply_to : ℕ → Reply → ReplyTo
reply_to session reply = record { session = session; reply = reply; waits = [] }

abbrev pub reply_after : ℕ → Reply → List TrxName → ReplyTo
reply_after session reply waits = record { session = session; reply = reply; waits = waits }

abbrev pub trx_named : ℕ → ℕ → TrxName
trx_named session first = record { session = session; first = first }

-- answers by session, each to the session's next statement
abbrev pub answers_below : List Answer → List ReplyTo → List Answer
answers_below above [] = above
answers_below above (one ∷ more) = answers_below (above ++ record { session = one.session; index = length (answered one.session above) + 1; reply = one.reply; waits = all_of one.waits } ∷ []) more

-- a store without rows, whose base is 0
abbrev pub no_rows : Opening
no_rows = record { base = 0; taken = 2; rows = all_of [] }

abbrev pub row : ℕ → List ℕ → KeyValue
row key value = record { key = key; value = value }

abbrev pub down : ℕ → ℕ → Down
down primary by = record { primary = primary; by = by }

-- what a script is answered over it in mode Step
abbrev pub step_of : Script → List ReplyTo → List Down → ℕ → Execution
step_of script answers downs commits = execution_of script no_rows (record {
  mode = Step;
  base = 0;
  parts = all_of (record { primary = 0; answers = all_of (answers_below [] answers) } ∷ []);
  downs = all_of downs;
  commits = commits;
})

-- and on two primaries in mode Run
abbrev pub run_of : Script → List ReplyTo → List ReplyTo → ℕ → Execution
run_of script first second commits = execution_of script no_rows (record {
  mode = Run;
  base = 0;
  parts = all_of (record { primary = 1; answers = all_of (answers_below [] first) } ∷ record { primary = 2; answers = all_of (answers_below [] second) } ∷ []);
  downs = all_of [];
  commits = commits;
})
