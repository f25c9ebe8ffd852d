-- The summary of an answered script: one line that is printed in place of the transcript.
use Rattle.std.specs.Prelude.{ℕ, ◌==◌, Bool, true, false, if◌then◌else◌, List, [], ◌∷◌, ◌++◌, Option, None, Some, length, count_by, codes}
use Rattle.std.specs.List.{list_any, filter_map}
use Rattle.std.specs.Fmt.{decimal}
use Rattle.mp_model.specs.declared.replies.Answer.{Answer}
use Rattle.mp_model.specs.declared.replies.Reply.{Reply}
use Rattle.mp_model.specs.declared.replies.Reply.TheVariants.{Committed, Skipped, Stopped}
use Rattle.mp_model.specs.declared.transcripts.Transcript.{Transcript}
use Rattle.mp_script.specs.declared.statements.Line.{Line}
use Rattle.mp_script.specs.declared.statements.Script.{Script}
use Rattle.mp_script.specs.Execution.{all_answers, stmt_in}
use Rattle.mp_script.specs.Transactions.{is_wrote, target_key}

-- a statement was answered, done or refused: it wasn't skipped, and its primary wasn't down
abbrev pub is_answered : Reply → Bool
is_answered Skipped = false
is_answered (Stopped by) = false
is_answered _ = true

-- a commit was acknowledged: one of unknown end isn't, nor is one of a transaction without a write
abbrev pub is_acknowledged : Reply → Bool
is_acknowledged (Committed number) = true
is_acknowledged _ = false

abbrev pub answered_count : List Answer → ℕ
answered_count answers = count_by (λ answer. is_answered answer.reply) answers

abbrev pub acknowledged_count : List Answer → ℕ
acknowledged_count answers = count_by (λ answer. is_acknowledged answer.reply) answers

-- the key that an answer's statement wrote, where it was answered ok
abbrev pub written_key : List Line → Answer → Option ℕ
written_key lines answer = if is_wrote (Some answer.reply) then target_key (stmt_in lines answer.session answer.index) else None

abbrev pub keys_written : List Line → List Answer → List ℕ
keys_written lines answers = filter_map (written_key lines) answers

-- some numbers, and behind them one more, unless it is there
abbrev pub with_number : List ℕ → ℕ → List ℕ
with_number there number = if list_any (λ other. other == number) there then there else there ++ number ∷ []

-- some numbers, and behind them those of others that aren't there yet, each once
abbrev pub with_numbers : List ℕ → List ℕ → List ℕ
with_numbers there [] = there
with_numbers there (number ∷ numbers) = with_numbers (with_number there number) numbers

-- how many different keys were written
abbrev pub key_count : List Line → List Answer → ℕ
key_count lines answers = length (with_numbers [] (keys_written lines answers))

abbrev pub summary_line : ℕ → ℕ → ℕ → ℕ → List ℕ
summary_line number answered commits keys =
    (codes "summary number " ++ decimal number)
    ++ ((codes " answered " ++ decimal answered) ++ ((codes " commits " ++ decimal commits) ++ ((codes " keys " ++ decimal keys) ++ 10 ∷ [])))

-- THE SUMMARY of a transcript of the script with a number
abbrev pub summary_text : ℕ → Script → Transcript → List ℕ
summary_text number script transcript =
    let answers = all_answers transcript in
    summary_line number (answered_count answers) (acknowledged_count answers) (key_count script.lines.items answers)
