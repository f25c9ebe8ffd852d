-- What a transcript says, whatever free places its lists have.
use Rattle.std.specs.Prelude.{List, map}
use Rattle.mp_model.specs.Listed.{Listed}
use Rattle.mp_model.specs.declared.replies.Reply.{Reply}
use Rattle.mp_model.specs.declared.replies.Reply.TheVariants.{Began, Got, Scanned, Wrote, Committed, CommittedNone, Unknown, RolledBack, Conflict, Held, Full, Skipped, Stopped}
use Rattle.mp_model.specs.declared.replies.Answer.{Answer}
use Rattle.mp_model.specs.declared.transcripts.Part.{Part}
use Rattle.mp_model.specs.declared.transcripts.Transcript.{Transcript}

-- the list with no free place
abbrev pub listed : {T : Type 0} → List T → Listed T
listed items = record { items = items; spare = 0 }

abbrev pub bare_reply : Reply → Reply
bare_reply (Began view) = Began view
bare_reply (Got value) = Got value
bare_reply (Scanned rows) = Scanned (listed rows.items)
bare_reply (Wrote verb) = Wrote verb
bare_reply (Committed cts) = Committed cts
bare_reply CommittedNone = CommittedNone
bare_reply (Unknown cts) = Unknown cts
bare_reply RolledBack = RolledBack
bare_reply (Conflict verb cts) = Conflict verb cts
bare_reply (Held verb name) = Held verb name
bare_reply (Full verb) = Full verb
bare_reply Skipped = Skipped
bare_reply (Stopped by) = Stopped by

abbrev pub bare_answer : Answer → Answer
bare_answer answer = record { session = answer.session; index = answer.index; reply = bare_reply answer.reply; waits = listed answer.waits.items }

abbrev pub bare_part : Part → Part
bare_part part = record { primary = part.primary; answers = listed (map bare_answer part.answers.items) }

-- the transcript with no free place in any list
abbrev pub bare_transcript : Transcript → Transcript
bare_transcript t = record {
  mode = t.mode;
  base = t.base;
  parts = listed (map bare_part t.parts.items);
  downs = listed t.downs.items;
  commits = t.commits;
}
