-- Small scripts, openings and transcripts, for examples.
use Rattle.std.specs.Prelude.{ℕ, ◌+◌, List, [], ◌∷◌}
use Rattle.mp_model.specs.declared.histories.Opening.{Opening}
use Rattle.mp_model.specs.declared.replies.Reply.TheVariants.{Committed}
use Rattle.mp_model.specs.declared.transcripts.Mode.TheVariants.{Step, Run}
use Rattle.mp_model.specs.declared.transcripts.Transcript.{Transcript}
use Rattle.mp_script.specs.declared.statements.Line.{Line}
use Rattle.mp_script.specs.declared.statements.Script.{Script}
use Rattle.mp_cells.specs.PageView.{bits_set}
use Rattle.mp_cells.specs.Trees.{rows_in}
use Rattle.mp_files.specs.Nine.{Image}
use Rattle.mp_store.specs.StoreFiles.{header_in_force}
use Rattle.mp_store.specs.CleanStores.{stored_pages}
use Rattle.mp_recover.specs.KeptCommits.{present}

-- a script with these statements, and no session declared
abbrev pub script_of : List Line → Script
script_of lines = record { primaries = 1; sessions = record { items = []; spare = 0 }; lines = record { items = lines; spare = 0 } }

-- what nine files have, with so much added to the timestamp
abbrev pub opening_as : Image → ℕ → Opening
opening_as image add = record {
  base = (header_in_force image.store).base + add;
  taken = bits_set (stored_pages image.store 0).bits;
  rows = record { items = present (rows_in (stored_pages image.store)); spare = 0 };
}

-- a transcript over the timestamp 7, with a part of this primary without an answer, and this count of commits
abbrev pub step_transcript : ℕ → ℕ → Transcript
step_transcript primary commits = record {
  mode = Step;
  base = 7;
  parts = record { items = record { primary = primary; answers = record { items = []; spare = 0 } } ∷ []; spare = 0 };
  downs = record { items = []; spare = 0 };
  commits = commits;
}

-- the same of mode Run, with parts of these two primaries
abbrev pub apart_transcript : ℕ → ℕ → Transcript
apart_transcript first second = record (step_transcript 0 0) {
  mode = Run;
  parts = record {
    items = record { primary = first; answers = record { items = []; spare = 0 } } ∷ record { primary = second; answers = record { items = []; spare = 0 } } ∷ [];
    spare = 0;
  };
}

-- a transcript of mode Step with one `down` line
abbrev pub down_transcript : ℕ → ℕ → Transcript
down_transcript primary by = record (step_transcript 0 0) { downs = record { items = record { primary = primary; by = by } ∷ []; spare = 0 } }

-- one where the second statement of session 1 acknowledged a commit with this timestamp
abbrev pub acknowledging_transcript : ℕ → Transcript
acknowledging_transcript cts = record (step_transcript 0 1) {
  parts = record {
    items = record {
      primary = 0;
      answers = record { items = record { session = 1; index = 2; reply = Committed cts; waits = record { items = []; spare = 0 } } ∷ []; spare = 0 };
    } ∷ [];
    spare = 0;
  };
}
