-- The timestamps of commits and the views: which numbers an answer may show.
use Rattle.std.specs.Prelude.{◌≡◌, ◌≢◌, ℕ, ◌+◌, ◌<◌, ◌≤◌, nat_lt, nat_le, ◌&&◌, if◌then◌else◌, List, [], count_by, length, IfSome}
use Rattle.std.specs.List.{AllByRecursion}
use Rattle.mp_model.specs.declared.replies.Answer.{Answer}
use Rattle.mp_model.specs.declared.replies.Reply.{Reply}
use Rattle.mp_model.specs.declared.replies.Reply.TheVariants.{Began}
use Rattle.mp_model.specs.declared.transcripts.Mode.{Mode}
use Rattle.mp_model.specs.declared.transcripts.Mode.TheVariants.{Step, Run}
use Rattle.mp_script.specs.Execution.{Execution}
use Rattle.mp_script.specs.Transactions.{view_at, cts_of, is_number}
use Rattle.mp_script.specs.Below.{EachBelow, numbers, greatest_cts}

-- a commit's number is one of those from base + 1 on, above its transaction's view, and no answer above shows it
pub record IsFreeNumber (run : Execution) (above : List Answer) (answer : Answer) (number : ℕ) : Type 0 where
  pub above_base : run.opening.base < number
  pub within : number ≤ run.opening.base + run.commits
  pub above_view : view_at run answer.session answer.index < number
  pub free : AllByRecursion (λ other. other ≢ number) (numbers above)

-- each commit has a free number, and there are as many commits as the transcript says
pub record AreNumbered (run : Execution) : Type 0 where
  pub each : EachBelow (λ above answer. IfSome (cts_of answer.reply) (IsFreeNumber run above answer)) [] run.answers
  pub all : length (numbers run.answers) ≡ run.commits

-- so the commit numbers are those from base + 1 on, each once
abbrev pub AreNumberedOnce : Execution → Type 0
AreNumberedOnce run = (number : ℕ) → count_by (λ answer. is_number number (cts_of answer.reply)) run.answers ≡ (if (nat_lt run.opening.base number && nat_le number (run.opening.base + run.commits)) then 1 else 0)

-- a fact of the view that a reply shows, where it shows one
abbrev pub IfBegan : Reply → (ℕ → Type 0) → Type 0
IfBegan (Began view) P = P view
IfBegan _ P = Unit {0}

-- a fact of the view that an answer shows, where it shows one
abbrev pub IfShowsView : Answer → (ℕ → Type 0) → Type 0
IfShowsView answer P = IfBegan answer.reply P

-- in mode Step a view is the greatest commit number above it; in mode Run it is at least each in its part
abbrev pub CoversAbove : Mode → ℕ → List Answer → ℕ → Type 0
CoversAbove Step base above view = view ≡ greatest_cts base (numbers above)
CoversAbove Run base above view = AllByRecursion (λ number. number ≤ view) (numbers above)

-- a view isn't below the base nor above the last commit, and covers the commits above it
pub record IsRightView (run : Execution) (above : List Answer) (view : ℕ) : Type 0 where
  pub low : run.opening.base ≤ view
  pub high : view ≤ run.opening.base + run.commits
  pub covers : CoversAbove run.mode run.opening.base above view
