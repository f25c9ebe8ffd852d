-- What was read of a transcript so far.
use Rattle.std.specs.Prelude.{◌≡◌, ℕ, ◌+◌, ◌^◌, ◌<◌, ◌≤◌, nat_lt, if◌then◌else◌, List, [], ◌∷◌, ◌++◌, length, map, count_by}
use Rattle.std.specs.List.{AllByRecursion, flat_map}
use Rattle.mp_model.specs.declared.replies.Answer.{Answer}
use Rattle.mp_model.specs.declared.transcripts.Mode.{Mode}
use Rattle.mp_model.specs.declared.transcripts.Mode.TheVariants.{Step, Run}
use Rattle.mp_model.specs.declared.transcripts.Part.{Part}
use Rattle.mp_model.specs.declared.transcripts.Down.{Down}
use Rattle.mp_model.specs.declared.transcripts.Transcript.{Transcript}
use Rattle.mp_report.specs.declared.read.lines.Line.{Line}
use Rattle.mp_report.specs.declared.read.lines.Line.TheVariants.{Head, Primary, Answered, WentDown, End}
use Rattle.mp_report.specs.declared.read.stands.Stand.{Stand}
use Rattle.mp_report.specs.declared.read.stands.Stand.TheVariants.{Top, Opened, Among, Downs, Ended}
use Rattle.mp_report.specs.Lines.{text_of_lines}
use Rattle.mp_report.specs.Answers.{answer_words}
use Rattle.mp_report.specs.Transcripts.{head_words, primary_lines, part_lines, down_words, last_words}
use Rattle.mp_report.specs.Readable.{IsStamp, IsAnswer, IsDown, PartsInOrder, is_commit, commit_count}

-- what lines say: the parts that are finished, and the primary and the answers of the part that isn't
pub record TranscriptSaid : Type 0 where
  pub mode : Mode
  pub base : ℕ
  pub parts : List Part
  pub primary : ℕ
  pub answers : List Answer
  pub downs : List Down
  pub commits : ℕ

abbrev pub draft_said : Transcript → Part → TranscriptSaid
draft_said t part = record {
  mode = t.mode;
  base = t.base;
  parts = t.parts.items;
  primary = part.primary;
  answers = part.answers.items;
  downs = t.downs.items;
  commits = t.commits;
}

-- before the first line
abbrev pub nothing : TranscriptSaid
nothing = record { mode = Step; base = 0; parts = []; primary = 0; answers = []; downs = []; commits = 0 }

-- with one line more: that of a primary finishes the part above, of which the first has none
abbrev pub added : Line → Part → TranscriptSaid → TranscriptSaid
added (Head mode base) part s = record { mode = mode; base = base; parts = s.parts; primary = s.primary; answers = s.answers; downs = s.downs; commits = s.commits }
added (Primary primary) part s = record { mode = s.mode; base = s.base; parts = if nat_lt 1 primary then s.parts ++ part ∷ [] else s.parts; primary = primary; answers = []; downs = s.downs; commits = s.commits }
added (Answered answer) part s = record { mode = s.mode; base = s.base; parts = s.parts; primary = s.primary; answers = s.answers ++ answer ∷ []; downs = s.downs; commits = s.commits }
added (WentDown down) part s = record { mode = s.mode; base = s.base; parts = s.parts; primary = s.primary; answers = s.answers; downs = s.downs ++ down ∷ []; commits = s.commits }
added (End commits) part s = record { mode = s.mode; base = s.base; parts = s.parts; primary = s.primary; answers = s.answers; downs = s.downs; commits = commits }

-- the lines that say it, without the last line
abbrev pub lines_said : TranscriptSaid → List (List (List ℕ))
lines_said s =
    head_words s.mode s.base
    ∷ (flat_map (part_lines s.mode) s.parts ++ (primary_lines s.mode s.primary ++ (map answer_words s.answers ++ map down_words s.downs)))

-- the parts above that of a primary
abbrev pub PartsAbove : Mode → ℕ → List Part → Type 0
PartsAbove Step primary parts = (primary ≡ 0) × (parts ≡ [])
PartsAbove Run primary parts = (primary ≡ length parts + 1) × (primary ≤ 8) × PartsInOrder 1 parts

-- it is what a readable transcript says, with so many commits
pub record IsSaid (s : TranscriptSaid) (commits : ℕ) : Type 0 where
  pub base : IsStamp s.base
  pub above : PartsAbove s.mode s.primary s.parts
  pub finished : AllByRecursion (λ part. AllByRecursion IsAnswer part.answers.items) s.parts
  pub answers : AllByRecursion IsAnswer s.answers
  pub downs : AllByRecursion IsDown s.downs
  pub counted : commits ≡ commit_count s.parts + count_by (λ answer. is_commit answer.reply) s.answers

-- the lines above a place are this text, and they say this
abbrev pub ReadsLines : Stand → TranscriptSaid → List ℕ → Type 0
ReadsLines Top s text = (s ≡ nothing) × (text ≡ [])
ReadsLines Opened s text = (base : ℕ) × (s ≡ record { mode = Run; base = base; parts = []; primary = 0; answers = []; downs = []; commits = 0 }) × IsStamp base × (text ≡ text_of_lines (head_words Run base ∷ []))
ReadsLines (Among primary commits) s text = IsSaid s commits × (s.primary ≡ primary) × (s.downs ≡ []) × (text ≡ text_of_lines (lines_said s))
ReadsLines (Downs commits) s text = IsSaid s commits × (text ≡ text_of_lines (lines_said s))
ReadsLines Ended s text = IsSaid s s.commits × (s.commits < 2 ^ 64) × (text ≡ text_of_lines (lines_said s ++ last_words s.commits ∷ []))
