-- How a transcript is printed.
use Rattle.std.specs.Prelude.{ℕ, List, [], ◌∷◌, ◌++◌, map, codes, decimal}
use Rattle.std.specs.List.{flat_map}
use Rattle.mp_model.specs.declared.transcripts.Mode.{Mode}
use Rattle.mp_model.specs.declared.transcripts.Mode.TheVariants.{Step, Run}
use Rattle.mp_model.specs.declared.transcripts.Part.{Part}
use Rattle.mp_model.specs.declared.transcripts.Down.{Down}
use Rattle.mp_model.specs.declared.transcripts.Transcript.{Transcript}
use Rattle.mp_report.specs.Lines.{text_of_lines}
use Rattle.mp_report.specs.Answers.{answer_words}

abbrev pub mode_word : Mode → List ℕ
mode_word Step = codes "step"
mode_word Run = codes "run"

-- the first line
abbrev pub head_words : Mode → ℕ → List (List ℕ)
head_words mode base = codes "transcript" ∷ mode_word mode ∷ codes "base" ∷ decimal base ∷ []

-- the line of a primary's name
abbrev pub primary_words : ℕ → List (List ℕ)
primary_words primary = codes "primary" ∷ decimal primary ∷ []

-- the line above a primary's answers, which are under its name in mode Run alone
abbrev pub primary_lines : Mode → ℕ → List (List (List ℕ))
primary_lines Step primary = []
primary_lines Run primary = primary_words primary ∷ []

-- a part: its answers in their order
abbrev pub part_lines : Mode → Part → List (List (List ℕ))
part_lines mode part = primary_lines mode part.primary ++ map answer_words part.answers.items

-- a primary that went down
abbrev pub down_words : Down → List (List ℕ)
down_words down = codes "down" ∷ decimal down.primary ∷ codes "by" ∷ decimal down.by ∷ []

-- the last line
abbrev pub last_words : ℕ → List (List ℕ)
last_words commits = codes "end" ∷ codes "commits" ∷ decimal commits ∷ []

-- the first line, the parts, the primaries that went down, the last line
abbrev pub transcript_lines : Transcript → List (List (List ℕ))
transcript_lines transcript =
    head_words transcript.mode transcript.base
    ∷ (flat_map (part_lines transcript.mode) transcript.parts.items ++ (map down_words transcript.downs.items ++ last_words transcript.commits ∷ []))

-- the text of a transcript
unfoldable pub transcript_text : Transcript → List ℕ
transcript_text transcript = text_of_lines (transcript_lines transcript)
