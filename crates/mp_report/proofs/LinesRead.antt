-- Each printed line reads back as what it says.
use Rattle.std.proofs.Common.{◌≡◌, ℕ, ◌-◌, ◌^◌, ◌<◌, true, Some, refl, arith}
use Rattle.mp_model.specs.declared.replies.Answer.{Answer}
use Rattle.mp_model.specs.declared.transcripts.Mode.{Mode}
use Rattle.mp_model.specs.declared.transcripts.Mode.TheVariants.{Step, Run}
use Rattle.mp_model.specs.declared.transcripts.Down.{Down}
use Rattle.mp_report.specs.declared.read.lines.Line.TheVariants.{Head, Primary, Answered, WentDown, End}
use Rattle.mp_report.specs.Answers.{answer_words}
use Rattle.mp_report.specs.Bare.{bare_answer}
use Rattle.mp_report.specs.Transcripts.{head_words, primary_words, down_words, last_words}
use Rattle.mp_report.specs.Readable.{IsStamp, IsPrimary, IsDown, IsAnswer}
use Rattle.mp_report.specs.ReadingLines.{read_line}
use Rattle.mp_report.proofs.WordsRead.{number_read}
use Rattle.mp_report.proofs.RepliesRead.{stamp_read, primary_read, answer_read}
use Rattle.mp_report.proofs.LinesCut.{is_line}
use Rattle.mp_report.proofs.WordsAreWords.{number_word}

pub head_read : (mode : Mode) (base : ℕ) → IsStamp base → read_line (head_words mode base) ≡ Some (Head mode base)
head_read Step base is = rw (stamp_read base is) refl
head_read Run base is = rw (stamp_read base is) refl

pub primary_line_read : (primary : ℕ) → IsPrimary primary → read_line (primary_words primary) ≡ Some (Primary primary)
primary_line_read primary is = rw (primary_read primary is) refl

pub answer_line_read : (answer : Answer) → IsAnswer answer → read_line (answer_words answer) ≡ Some (Answered (bare_answer answer))
answer_line_read answer is = rw (answer_read answer is) refl

pub down_read : (down : Down) → IsDown down → read_line (down_words down) ≡ Some (WentDown down)
down_read down is = rw (primary_read down.primary is.primary, primary_read down.by is.by) refl

pub end_read : (commits : ℕ) → commits < 2 ^ 64 → read_line (last_words commits) ≡ Some (End commits)
end_read commits small = rw (number_read 0 (2 ^ 64 - 1) commits (omega arith) (omega (arith, small)) small) refl

pub head_is_line : (mode : Mode) (base : ℕ) → IsStamp base → is_line (head_words mode base) ≡ true
head_is_line Step base is = rw (number_word base (omega (arith, is))) refl
head_is_line Run base is = rw (number_word base (omega (arith, is))) refl

pub primary_is_line : (primary : ℕ) → IsPrimary primary → is_line (primary_words primary) ≡ true
primary_is_line primary is = rw (number_word primary (omega (arith, is.1))) refl

pub down_is_line : (down : Down) → IsDown down → is_line (down_words down) ≡ true
down_is_line down is = rw (number_word down.primary (omega (arith, is.primary.1)), number_word down.by (omega (arith, is.by.1))) refl

pub end_is_line : (commits : ℕ) → commits < 2 ^ 64 → is_line (last_words commits) ≡ true
end_is_line commits small = rw (number_word commits small) refl
