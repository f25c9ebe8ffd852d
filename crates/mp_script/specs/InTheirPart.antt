-- Each statement is answered once, in its part: the parts, the answer to a session's next statement, and the same by
-- counting.
use Rattle.std.specs.Prelude.{◌≡◌, ℕ, zero, suc, ◌+◌, Bool, true, ◌==◌, ◌||◌, if◌then◌else◌, List, [], ◌∷◌, Some, map, length, slice_get}
use Rattle.std.specs.List.{AllByRecursion}
use Rattle.mp_model.specs.Folded.{KeysAscend}
use Rattle.mp_model.specs.declared.replies.Answer.{Answer}
use Rattle.mp_model.specs.declared.transcripts.Mode.{Mode}
use Rattle.mp_model.specs.declared.transcripts.Mode.TheVariants.{Step, Run}
use Rattle.mp_model.specs.declared.transcripts.Part.{Part}
use Rattle.mp_script.specs.Execution.{Execution, runs_on}
use Rattle.mp_script.specs.Below.{EachInItsPart, answered, stated}

-- so many numbers, each one above the one before
abbrev pub count_from : ℕ → ℕ → List ℕ
count_from first zero = []
count_from first (suc count) = first ∷ count_from (first + 1) count

-- the primaries whose answers the parts have: in mode Step one part, of primary 0, has them all
abbrev pub part_primaries : Mode → ℕ → List ℕ
part_primaries Step primaries = 0 ∷ []
part_primaries Run primaries = count_from 1 primaries

-- the transcript has the opening's base, the opening's rows are a map, and each primary has its part
pub record BeginsAtOpening (run : Execution) : Type 0 where
  pub base : run.base ≡ run.opening.base
  pub rows : KeysAscend run.opening.rows.items
  pub parts : map (λ part. part.primary) run.parts ≡ part_primaries run.mode run.primaries

-- a session's answers belong in the part of this primary
abbrev pub belongs : Execution → ℕ → ℕ → Bool
belongs run primary session = primary == 0 || runs_on run session primary

-- the answer is in the part of its session's primary, and is the one to the session's next statement
pub record IsNextStatement (run : Execution) (primary : ℕ) (above : List Answer) (answer : Answer) : Type 0 where
  pub its_part : belongs run primary answer.session ≡ true
  pub next : slice_get (stated answer.session run.lines) (length (answered answer.session above)) ≡ Some answer.index

-- no statement is left: a session has as many answers in its part as it has statements
abbrev pub LeavesNone : Execution → Part → Type 0
LeavesNone run part = (session : ℕ) → belongs run part.primary session ≡ true → length (answered session part.answers.items) ≡ length (stated session run.lines)

-- each statement is answered once, in its part, and in its session's order
pub record AnswersEachStatement (run : Execution) : Type 0 where
  pub in_order : EachInItsPart run (IsNextStatement run)
  pub none_left : AllByRecursion (LeavesNone run) run.parts

-- the same: a part has the statements of its sessions, in each session's order, and no others
abbrev pub AnswersEachOnce : Execution → Part → Type 0
AnswersEachOnce run part = (session : ℕ) → answered session part.answers.items ≡ (if belongs run part.primary session then stated session run.lines else [])
