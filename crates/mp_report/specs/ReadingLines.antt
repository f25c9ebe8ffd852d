-- How printed lines are read.
use Rattle.std.specs.Prelude.{ℕ, ◌-◌, ◌^◌, ◌<◌, ◌==◌, if◌then◌else◌, List, [], ◌∷◌, map, Option, Some, None, codes}
use Rattle.std.specs.List.{slice_split}
use Rattle.std.specs.Str.{bytes_eq}
use Rattle.mp_model.specs.declared.transcripts.Mode.{Mode}
use Rattle.mp_model.specs.declared.transcripts.Mode.TheVariants.{Step, Run}
use Rattle.mp_report.specs.declared.read.lines.Line.{Line}
use Rattle.mp_report.specs.declared.read.lines.Line.TheVariants.{Head, Primary, Answered, WentDown, End}
use Rattle.mp_report.specs.Answers.{answer_words}
use Rattle.mp_report.specs.Bare.{bare_answer}
use Rattle.mp_report.specs.Transcripts.{head_words, primary_words, down_words, last_words}
use Rattle.mp_report.specs.Readable.{IsStamp, IsPrimary, IsAnswer, IsDown}
pub use Rattle.mp_script.specs.Words.{words_of}
use Rattle.mp_report.specs.Reading.{◌>>=◌, read_number, read_stamp, read_primary, read_answer}

-- the lines of a text, each as its words; the last one is what stands behind the last byte 10
abbrev pub lines_of : List ℕ → List (List (List ℕ))
lines_of text = map words_of (slice_split (λ b. b == 10) text)

abbrev pub read_mode : List ℕ → Option Mode
read_mode word = if bytes_eq word (codes "step") then Some Step else (if bytes_eq word (codes "run") then Some Run else None)

-- the first line, by the words behind `transcript`
abbrev pub read_head : List (List ℕ) → Option Line
read_head (mode ∷ name ∷ base ∷ []) =
    if bytes_eq name (codes "base") then (read_mode mode >>= λ m. read_stamp base >>= λ b. Some (Head m b)) else None
read_head words = None

-- the line above a part, by the words behind `primary`
abbrev pub read_primary_line : List (List ℕ) → Option Line
read_primary_line (word ∷ []) = read_primary word >>= λ primary. Some (Primary primary)
read_primary_line words = None

-- a primary that went down, by the words behind `down`
abbrev pub read_down : List (List ℕ) → Option Line
read_down (primary ∷ name ∷ by ∷ []) =
    if bytes_eq name (codes "by") then (read_primary primary >>= λ p. read_primary by >>= λ b. Some (WentDown (record { primary = p; by = b }))) else None
read_down words = None

-- the last line, by the words behind `end`
abbrev pub read_end : List (List ℕ) → Option Line
read_end (name ∷ count ∷ []) = if bytes_eq name (codes "commits") then (read_number 0 (2 ^ 64 - 1) count >>= λ commits. Some (End commits)) else None
read_end words = None

-- what a line says
abbrev pub read_line : List (List ℕ) → Option Line
read_line [] = None
read_line (word ∷ words) =
    if bytes_eq word (codes "transcript") then read_head words
    else (if bytes_eq word (codes "primary") then read_primary_line words
    else (if bytes_eq word (codes "down") then read_down words
    else (if bytes_eq word (codes "end") then read_end words
    else (read_answer (word ∷ words) >>= λ answer. Some (Answered answer)))))

-- the words of a line
abbrev pub line_words : Line → List (List ℕ)
line_words (Head mode base) = head_words mode base
line_words (Primary primary) = primary_words primary
line_words (Answered answer) = answer_words answer
line_words (WentDown down) = down_words down
line_words (End commits) = last_words commits

-- the line says what a line of a readable transcript may say
abbrev pub IsLine : Line → Type 0
IsLine (Head mode base) = IsStamp base
IsLine (Primary primary) = IsPrimary primary
IsLine (Answered answer) = IsAnswer answer
IsLine (WentDown down) = IsDown down
IsLine (End commits) = commits < 2 ^ 64

-- the line, whatever free places its lists have
abbrev pub bare_line : Line → Line
bare_line (Head mode base) = Head mode base
bare_line (Primary primary) = Primary primary
bare_line (Answered answer) = Answered (bare_answer answer)
bare_line (WentDown down) = WentDown down
bare_line (End commits) = End commits
