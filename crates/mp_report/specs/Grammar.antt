-- Which lines a transcript may have where, and where the first is that it may not have.
use Rattle.std.specs.Prelude.{ℕ, ◌+◌, ◌==◌, ◌&&◌, nat_le, Bool, true, false, if◌then◌else◌, List, [], ◌∷◌, length, Option, Some, None}
use Rattle.std.specs.List.{slice_split}
use Rattle.mp_model.specs.declared.replies.Answer.{Answer}
use Rattle.mp_model.specs.declared.transcripts.Mode.TheVariants.{Step, Run}
use Rattle.mp_report.specs.declared.read.lines.Line.{Line}
use Rattle.mp_report.specs.declared.read.lines.Line.TheVariants.{Head, Primary, Answered, WentDown, End}
use Rattle.mp_report.specs.declared.read.stands.Stand.{Stand}
use Rattle.mp_report.specs.declared.read.stands.Stand.TheVariants.{Top, Opened, Among, Downs, Ended}
use Rattle.mp_report.specs.Readable.{is_commit}
use Rattle.mp_report.specs.Reading.{◌>>=◌}
use Rattle.mp_report.specs.ReadingLines.{words_of, read_line}

-- the count of commits with one answer more
abbrev pub commits_of : ℕ → Answer → ℕ
commits_of commits answer = if is_commit answer.reply then commits + 1 else commits

-- where the next line stands behind this one, which stands below the last answer of a primary or below its line; the
-- primary is 0 in mode Step
abbrev pub among : ℕ → ℕ → Line → Option Stand
among primary commits (Head mode base) = None
among primary commits (Primary next) = if nat_le 1 primary && next == primary + 1 then Some (Among next commits) else None
among primary commits (Answered answer) = Some (Among primary (commits_of commits answer))
among primary commits (WentDown down) = Some (Downs commits)
among primary commits (End count) = if count == commits then Some Ended else None

-- where the next line stands behind this one, which stands below a primary that went down
abbrev pub downs : ℕ → Line → Option Stand
downs commits (Head mode base) = None
downs commits (Primary next) = None
downs commits (Answered answer) = None
downs commits (WentDown down) = Some (Downs commits)
downs commits (End count) = if count == commits then Some Ended else None

-- where the next line stands behind the first line
abbrev pub behind_head : Line → Option Stand
behind_head (Head Step base) = Some (Among 0 0)
behind_head (Head Run base) = Some Opened
behind_head (Primary next) = None
behind_head (Answered answer) = None
behind_head (WentDown down) = None
behind_head (End count) = None

-- where the next line stands behind the second line in mode Run
abbrev pub opened : Line → Option Stand
opened (Head mode base) = None
opened (Primary next) = if next == 1 then Some (Among 1 0) else None
opened (Answered answer) = None
opened (WentDown down) = None
opened (End count) = None

-- where the next line stands behind one that stands here, if that is allowed here
abbrev pub allowed : Stand → Line → Option Stand
allowed Top line = behind_head line
allowed Opened line = opened line
allowed (Among primary commits) line = among primary commits line
allowed (Downs commits) line = downs commits line
allowed Ended line = None

-- the commits above a place
abbrev pub commits_at : Stand → ℕ
commits_at Top = 0
commits_at Opened = 0
commits_at (Among primary commits) = commits
commits_at (Downs commits) = commits
commits_at Ended = 0

-- where the next line stands behind this text of one
abbrev pub next_stand : Stand → List ℕ → Option Stand
next_stand stand text = read_line (words_of text) >>= allowed stand

-- the last line stands above
abbrev pub is_ended : Stand → Bool
is_ended Top = false
is_ended Opened = false
is_ended (Among primary commits) = false
is_ended (Downs commits) = false
is_ended Ended = true

-- this offset where no line may stand there, and else the fault behind it
abbrev pub fault_at : ℕ → Option Stand → (Stand → Option ℕ) → Option ℕ
fault_at at None behind = Some at
fault_at at (Some next) behind = behind next

-- the offset of the first of these lines that isn't allowed; they begin at this offset, and what stands behind the last
-- byte 10 comes last and is no line
abbrev pub fault_in : Stand → ℕ → List (List ℕ) → Option ℕ
fault_in stand at [] = Some at
fault_in stand at (text ∷ []) = if is_ended stand && length text == 0 then None else Some at
fault_in stand at (text ∷ other ∷ texts) = fault_at at (next_stand stand text) (λ next. fault_in next (at + (length text + 1)) (other ∷ texts))

-- the offset of the first line that isn't allowed in a transcript, or the length where the last line is missing
abbrev pub transcript_fault : List ℕ → Option ℕ
transcript_fault bytes = fault_in Top 0 (slice_split (λ b. b == 10) bytes)
