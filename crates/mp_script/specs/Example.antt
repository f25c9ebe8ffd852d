-- The definitions of a legal transcript on one small script, checked by computing.
use Rattle.std.specs.Prelude.{ℕ, List, [], ◌∷◌, Option}
use Rattle.mp_model.specs.declared.histories.Opening.{Opening}
use Rattle.mp_model.specs.declared.replies.Answer.{Answer}
use Rattle.mp_model.specs.declared.replies.Reply.{Reply}
use Rattle.mp_model.specs.declared.replies.Reply.TheVariants.{Began, Got, Wrote, Committed}
use Rattle.mp_model.specs.declared.replies.WriteVerb.TheVariants as verb
use Rattle.mp_model.specs.declared.transcripts.Mode.TheVariants.{Step}
use Rattle.mp_model.specs.declared.transcripts.Transcript.{Transcript}
use Rattle.mp_script.specs.declared.statements.Line.{Line}
use Rattle.mp_script.specs.declared.statements.Script.{Script}
use Rattle.mp_script.specs.declared.statements.Stmt.{Stmt}
use Rattle.mp_script.specs.declared.statements.Stmt.TheVariants.{Begin, Get, Put, Commit}

-- one session that begins, puts the value a at key 7, gets key 7 and commits
abbrev pub small_script : Script
small_script = record {
  primaries = 1;
  sessions = record { items = record { session = 1; primary = 1 } ∷ []; spare = 0 };
  lines = record { items = line 1 Begin ∷ line 2 (Put 7 (97 ∷ [])) ∷ line 3 (Get 7) ∷ line 4 Commit ∷ []; spare = 0 };
}
  where
    line : ℕ → Stmt → Line
    line index stmt = record { session = 1; index = index; stmt = stmt }

-- a store without rows
abbrev pub fresh : Opening
fresh = record { base = 0; taken = 2; rows = record { items = []; spare = 0 } }

-- the transcript with this view, this value read, this commit number and this count of commits
abbrev pub small_transcript : ℕ → Option (List ℕ) → ℕ → ℕ → Transcript
small_transcript view value number commits = record {
  mode = Step;
  base = 0;
  parts = record { items = record { primary = 0; answers = record { items = answer 1 (Began view) ∷ answer 2 (Wrote verb.Put) ∷ answer 3 (Got value) ∷ answer 4 (Committed number) ∷ []; spare = 0 } } ∷ []; spare = 0 };
  downs = record { items = []; spare = 0 };
  commits = commits;
}
  where
    answer : ℕ → Reply → Answer
    answer index reply = record { session = 1; index = index; reply = reply; waits = record { items = []; spare = 0 } }
