-- The lines of a transcript, put together again, are the transcript.
use Rattle.std.proofs.Common.{◌≡◌, ℕ, ◌^◌, ◌<◌, List, [], ◌∷◌, ◌++◌, map, Option, Some, None, refl, append_assoc}
use Rattle.std.proofs.lemmas.List.{map-append}
use Rattle.std.specs.List.{AllByRecursion, flat_map}
use Rattle.mp_model.specs.declared.replies.Answer.{Answer}
use Rattle.mp_model.specs.declared.transcripts.Mode.{Mode}
use Rattle.mp_model.specs.declared.transcripts.Mode.TheVariants.{Step, Run}
use Rattle.mp_model.specs.declared.transcripts.Part.{Part}
use Rattle.mp_model.specs.declared.transcripts.Down.{Down}
use Rattle.mp_model.specs.declared.transcripts.Transcript.{Transcript}
use Rattle.mp_report.specs.declared.read.lines.Line.{Line}
use Rattle.mp_report.specs.declared.read.lines.Line.TheVariants.{Head, Primary, Answered, WentDown, End}
use Rattle.mp_report.specs.Answers.{answer_words}
use Rattle.mp_report.specs.Bare.{listed, bare_answer, bare_part}
use Rattle.mp_report.specs.Transcripts.{part_lines, down_words, last_words}
use Rattle.mp_report.specs.Readable.{IsPrimary, IsDown, IsAnswer}
use Rattle.mp_report.specs.ReadingLines.{read_line}
use Rattle.mp_report.proofs.LinesRead.{primary_line_read, answer_line_read, down_read, end_read}

-- what the lines from some place on say; answers stand here until their primary's line is met above them
pub record Gathered : Type 0 where
  pub mode : Mode
  pub base : ℕ
  pub answers : List Answer
  pub parts : List Part
  pub downs : List Down
  pub commits : ℕ

-- with one line more above
abbrev pub below : Option Line → Gathered → Gathered
below None g = g
below (Some (Head mode base)) g = record { mode = mode; base = base; answers = g.answers; parts = g.parts; downs = g.downs; commits = g.commits }
below (Some (Primary primary)) g = record { mode = g.mode; base = g.base; answers = []; parts = record { primary = primary; answers = listed g.answers } ∷ g.parts; downs = g.downs; commits = g.commits }
below (Some (Answered answer)) g = record { mode = g.mode; base = g.base; answers = answer ∷ g.answers; parts = g.parts; downs = g.downs; commits = g.commits }
below (Some (WentDown down)) g = record { mode = g.mode; base = g.base; answers = g.answers; parts = g.parts; downs = down ∷ g.downs; commits = g.commits }
below (Some (End commits)) g = record { mode = g.mode; base = g.base; answers = g.answers; parts = g.parts; downs = g.downs; commits = commits }

abbrev pub gathered : List (Option Line) → Gathered
gathered [] = record { mode = Step; base = 0; answers = []; parts = []; downs = []; commits = 0 }
gathered (line ∷ lines) = below line (gathered lines)

abbrev pub parts_of : Mode → Gathered → List Part
parts_of Step g = record { primary = 0; answers = listed g.answers } ∷ []
parts_of Run g = g.parts

-- the transcript of these lines
abbrev pub transcript_of : List (Option Line) → Transcript
transcript_of lines =
    let g = gathered lines in
    record { mode = g.mode; base = g.base; parts = listed (parts_of g.mode g); downs = listed g.downs; commits = g.commits }

-- after the first line
abbrev pub rest : List Answer → List Part → List Down → ℕ → Gathered
rest answers parts downs commits = record { mode = Step; base = 0; answers = answers; parts = parts; downs = downs; commits = commits }

pub downs_gathered : (downs : List Down) (commits : ℕ) → AllByRecursion IsDown downs → commits < 2 ^ 64
    → gathered (map read_line (map down_words downs ++ last_words commits ∷ []) ++ None ∷ []) ≡ rest [] [] downs commits
downs_gathered [] commits are small = rw (end_read commits small) refl
downs_gathered (down ∷ downs) commits are small = rw (down_read down are.0, downs_gathered downs commits are.1 small) refl

pub answers_gathered : (answers : List Answer) (lines : List (Option Line)) (parts : List Part) (downs : List Down) (commits : ℕ) → AllByRecursion IsAnswer answers
    → gathered lines ≡ rest [] parts downs commits → gathered (map read_line (map answer_words answers) ++ lines) ≡ rest (map bare_answer answers) parts downs commits
answers_gathered [] lines parts downs commits are below_is = below_is
answers_gathered (answer ∷ answers) lines parts downs commits are below_is =
    rw (answer_line_read answer are.0, answers_gathered answers lines parts downs commits are.1 below_is) refl

pub parts_gathered : (parts : List Part) (lines : List (Option Line)) (downs : List Down) (commits : ℕ)
    → AllByRecursion (λ part. IsPrimary part.primary) parts → AllByRecursion (λ part. AllByRecursion IsAnswer part.answers.items) parts
    → gathered lines ≡ rest [] [] downs commits → gathered (map read_line (flat_map (part_lines Run) parts) ++ lines) ≡ rest [] (map bare_part parts) downs commits
parts_gathered [] lines downs commits primaries are below_is = below_is
parts_gathered (part ∷ parts) lines downs commits primaries are below_is =
    let inner = answers_gathered part.answers.items (map read_line (flat_map (part_lines Run) parts) ++ lines) (map bare_part parts) downs commits are.0
    (parts_gathered parts lines downs commits primaries.1 are.1 below_is) in
    rw (
      primary_line_read part.primary primaries.0,
      map-append read_line (map answer_words part.answers.items) (flat_map (part_lines Run) parts),
      append_assoc (map read_line (map answer_words part.answers.items)) (map read_line (flat_map (part_lines Run) parts)) lines,
      inner,
    ) refl
