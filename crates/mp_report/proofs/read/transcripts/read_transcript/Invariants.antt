-- What was read and what is left are the bytes.
use Rattle.std.proofs.Common.{length}
use Rattle.mp_report.specs.Drafts.{draft_said}
use Rattle.mp_report.proofs.Halfway.{Halfway}
use Rattle.mp_report.proofs.read.transcripts.read_transcript.Given as goal

abbrev pub invariant-loop-text : goal.invariant-loop-text
invariant-loop-text l = Halfway l.bytes l.draft.stand (draft_said l.draft.transcript l.draft.part) l.rest

abbrev pub decreases-loop-text : goal.decreases-loop-text
decreases-loop-text l = length l.rest
