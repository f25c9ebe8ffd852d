-- How the answers of primaries are put together in a transcript: in mode Step in the order in which they were given, in
-- mode Run by primaries.
use Rattle.std.specs.Prelude.{◌≡◌, ℕ, ◌==◌, List, map, filter}
use Rattle.std.specs.List.{filter_map, AllByRecursion}
use Rattle.mp_model.specs.Folded.{AscendsFrom}
use Rattle.mp_model.specs.declared.histories.Opening.{Opening}
use Rattle.mp_model.specs.declared.transcripts.Down.{Down}
use Rattle.mp_model.specs.declared.transcripts.Mode.TheVariants.{Step, Run}
use Rattle.mp_model.specs.declared.transcripts.Transcript.{Transcript}
use Rattle.mp_script.specs.InTheirPart.{count_from}
use Rattle.mp_script.specs.Answers.{ViewsCover, IsTranscriptOver, IsWholePart}
use Rattle.mp_core_trx.specs.declared.opening.TrxOpening.{TrxOpening}
use Rattle.mp_core_trx.specs.Events.{IsNode}
use Rattle.mp_supports.specs.Kept.{Entry, answers_in}

-- an entry and the primary that kept it
pub record NodeEntry : Type 0 where
  pub node : ℕ
  pub entry : Entry

abbrev pub entries_given : List NodeEntry → List Entry
entries_given given = map (λ x. x.entry) given

-- those of one primary
abbrev pub given_by : ℕ → List NodeEntry → List Entry
given_by n given = entries_given (filter (λ x. x.node == n) given)

-- a list has the entries of all primaries, those of each in their order, and no others
pub record IsMerged (opening : TrxOpening) (entries : ℕ → List Entry) (given : List NodeEntry) : Type 0 where
  pub of_nodes : AllByRecursion (λ x. IsNode opening x.node) given
  pub each : (n : ℕ) → IsNode opening n → given_by n given ≡ entries n

-- The order in which all answers were given: their mtrs rise in the history, and each view is the greatest commit above it
pub record StepOrder (base : ℕ) (given : List NodeEntry) : Type 0 where
  pub rising : AscendsFrom (λ m. m.at) 0 (filter_map (λ x. x.entry.trace.mtr) given)
  pub views : ViewsCover Step base (answers_in (entries_given given))

-- In each primary's order each view is at or above the commits above it
abbrev pub RunOrder : TrxOpening → (ℕ → List Entry) → Type 0
RunOrder opening entries = (n : ℕ) → IsNode opening n → ViewsCover Run opening.base.ts (answers_in (entries n))

-- the transcript of a run in mode Step: one part has the answers in the order in which they were given
pub record IsStepTranscript (opening : Opening) (given : List NodeEntry) (downs : List Down) (transcript : Transcript) : Type 0 where
  pub over_opening : IsTranscriptOver opening downs Step transcript
  pub part : IsWholePart (answers_in (entries_given given)) transcript.parts.items

-- the transcript of a run in mode Run: a part for each primary has its answers
pub record IsRunTranscript (opening : Opening) (primaries : ℕ) (entries : ℕ → List Entry) (downs : List Down) (transcript : Transcript) : Type 0 where
  pub over_opening : IsTranscriptOver opening downs Run transcript
  pub primaries_are : map (λ part. part.primary) transcript.parts.items ≡ count_from 1 primaries
  pub answers_are : AllByRecursion (λ part. part.answers.items ≡ answers_in (entries part.primary)) transcript.parts.items
