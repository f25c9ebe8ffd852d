-- An execution: a script's statements, what they began from and what they were answered. The definitions of a legal
-- transcript look things up in it.
use Rattle.std.specs.Prelude.{ℕ, ◌==◌, ◌&&◌, Bool, if◌then◌else◌, List, [], ◌∷◌, Option, Some, None}
use Rattle.std.specs.List.{flat_map, list_any}
use Rattle.std.specs.Option.{option_map}
use Rattle.mp_model.specs.declared.histories.Opening.{Opening}
use Rattle.mp_model.specs.declared.replies.Answer.{Answer}
use Rattle.mp_model.specs.declared.replies.Reply.{Reply}
use Rattle.mp_model.specs.declared.transcripts.Down.{Down}
use Rattle.mp_model.specs.declared.transcripts.Mode.{Mode}
use Rattle.mp_model.specs.declared.transcripts.Part.{Part}
use Rattle.mp_model.specs.declared.transcripts.Transcript.{Transcript}
use Rattle.mp_script.specs.declared.statements.Line.{Line}
use Rattle.mp_script.specs.declared.statements.Script.{Script}
use Rattle.mp_script.specs.declared.statements.SessionOn.{SessionOn}
use Rattle.mp_script.specs.declared.statements.Stmt.{Stmt}

pub record Execution : Type 0 where
  -- the script
  pub primaries : ℕ
  pub sessions : List SessionOn
  pub lines : List Line
  -- the greatest timestamp, the taken pages and the rows before it
  pub opening : Opening
  -- the transcript: its mode, its base timestamp, and the answers of each part
  pub mode : Mode
  pub base : ℕ
  pub parts : List Part
  -- all answers, part after part
  pub answers : List Answer
  pub downs : List Down
  -- how many commits there are, those of unknown end included
  pub commits : ℕ

-- all answers of a transcript, part after part
abbrev pub all_answers : Transcript → List Answer
all_answers transcript = flat_map (λ part. part.answers.items) transcript.parts.items

-- the execution of a script over an opening that a transcript tells of
abbrev pub execution_of : Script → Opening → Transcript → Execution
execution_of script opening transcript = record {
  primaries = script.primaries;
  sessions = script.sessions.items;
  lines = script.lines.items;
  opening = opening;
  mode = transcript.mode;
  base = transcript.base;
  parts = transcript.parts.items;
  answers = all_answers transcript;
  downs = transcript.downs.items;
  commits = transcript.commits;
}

-- the statement of a session with this number
abbrev pub line_at : List Line → ℕ → ℕ → Option Line
line_at [] session index = None
line_at (line ∷ lines) session index = if (line.session == session && line.index == index) then Some line else line_at lines session index

abbrev pub stmt_in : List Line → ℕ → ℕ → Option Stmt
stmt_in lines session index = option_map (λ line. line.stmt) (line_at lines session index)

abbrev pub stmt_at : Execution → ℕ → ℕ → Option Stmt
stmt_at run session index = stmt_in run.lines session index

-- its first answer
abbrev pub answer_at : List Answer → ℕ → ℕ → Option Answer
answer_at [] session index = None
answer_at (answer ∷ answers) session index = if (answer.session == session && answer.index == index) then Some answer else answer_at answers session index

abbrev pub reply_at : Execution → ℕ → ℕ → Option Reply
reply_at run session index = option_map (λ answer. answer.reply) (answer_at run.answers session index)

-- a session is declared on a primary
abbrev pub is_session_on : List SessionOn → ℕ → ℕ → Bool
is_session_on sessions session primary = list_any (λ on. on.session == session && on.primary == primary) sessions

-- a session runs on a primary
abbrev pub runs_on : Execution → ℕ → ℕ → Bool
runs_on run session primary = is_session_on run.sessions session primary
