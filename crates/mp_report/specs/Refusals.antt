-- What the reader of transcripts answers.
use Rattle.std.specs.Prelude.{◌≡◌, ℕ, List, Some, Result, Ok, Err}
use Rattle.mp_model.specs.declared.transcripts.Transcript.{Transcript}
use Rattle.mp_report.specs.declared.read.transcripts.ReadRefusal.{ReadRefusal}
use Rattle.mp_report.specs.declared.read.transcripts.ReadRefusal.TheVariants.{Place, Memory}
use Rattle.mp_report.specs.Bare.{bare_transcript}
use Rattle.mp_report.specs.Grammar.{transcript_fault}

-- a place is that of the first fault in the bytes
abbrev pub NamesTranscriptFault : List ℕ → ReadRefusal → Type 0
NamesTranscriptFault bytes (Place place) = transcript_fault bytes ≡ Some place
NamesTranscriptFault bytes Memory = Unit {0}

-- the answer is this transcript, whatever free places its lists have, or there was no memory
abbrev pub ReadsBack : Transcript → Result Transcript ReadRefusal → Type 0
ReadsBack t (Ok read) = bare_transcript read ≡ bare_transcript t
ReadsBack t (Err (Place place)) = ⊥
ReadsBack t (Err Memory) = Unit {0}
