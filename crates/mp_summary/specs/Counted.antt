-- What has been counted of answers.
use Rattle.std.specs.Prelude.{◌≡◌, ◌+◌, List}
use Rattle.mp_model.specs.declared.replies.Answer.{Answer}
use Rattle.mp_script.specs.declared.statements.Line.{Line}
use Rattle.mp_summary.specs.declared.counting.AnswerCounts.{AnswerCounts}
use Rattle.mp_summary.specs.Summaries.{answered_count, acknowledged_count, keys_written, with_numbers}

-- these answers have been counted since
pub record HasCounted (lines : List Line) (answers : List Answer) (old new : AnswerCounts) : Type 0 where
  pub answered : new.answered ≡ old.answered + answered_count answers
  pub commits : new.commits ≡ old.commits + acknowledged_count answers
  pub keys : new.keys.items ≡ with_numbers old.keys.items (keys_written lines answers)
