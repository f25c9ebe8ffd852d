-- A transcript is legal: every reply is what the commits at or below its view, with its transaction's own writes, give,
-- or a refusal that its cause allows, and the commits stand in one timestamp order.
use Rattle.std.specs.List.{AllByRecursion}
use Rattle.mp_model.specs.declared.histories.Opening.{Opening}
use Rattle.mp_model.specs.declared.transcripts.Transcript.{Transcript}
use Rattle.mp_script.specs.declared.statements.Script.{Script}
use Rattle.mp_script.specs.Execution.{Execution, execution_of}
use Rattle.mp_script.specs.Below.{EachInItsPart}
use Rattle.mp_script.specs.InTheirPart.{BeginsAtOpening, AnswersEachStatement}
use Rattle.mp_script.specs.Right.{IsRightAnswer}
use Rattle.mp_script.specs.Numbered.{AreNumbered, IfShowsView, IsRightView}
use Rattle.mp_script.specs.Conflicts.{FirstCommitterWins, SeesEarlierCommits, HoldsItsKeys}
use Rattle.mp_script.specs.WentDown.{GoDownForACause}

-- each reply is right, with its waits
abbrev pub RepliesAreRight : Execution → Type 0
RepliesAreRight run = AllByRecursion (IsRightAnswer run) run.answers

-- each view that is shown covers the commits above it, and is within the run
abbrev pub ViewsAreRight : Execution → Type 0
ViewsAreRight run = EachInItsPart run (λ primary above answer. IfShowsView answer (IsRightView run above))

-- of two commits of a key the first wins
abbrev pub FirstCommittersWin : Execution → Type 0
FirstCommittersWin run = AllByRecursion (λ answer. AllByRecursion (FirstCommitterWins run answer) run.answers) run.answers

-- no write goes over a commit of its key that stands above it in its part and that its view doesn't show
abbrev pub WritesSeeEarlierCommits : Execution → Type 0
WritesSeeEarlierCommits run = EachInItsPart run (λ primary. SeesEarlierCommits run)

-- no write stands between another transaction's write of the key and its commit in a part
abbrev pub KeysAreHeld : Execution → Type 0
KeysAreHeld run = EachInItsPart run (λ primary. HoldsItsKeys run)

-- the nine rules, in their order
pub record IsLegal (run : Execution) : Type 0 where
  pub begins : BeginsAtOpening run
  pub answered : AnswersEachStatement run
  pub right : RepliesAreRight run
  pub numbered : AreNumbered run
  pub views : ViewsAreRight run
  pub first_wins : FirstCommittersWin run
  pub earlier_commits : WritesSeeEarlierCommits run
  pub held_keys : KeysAreHeld run
  pub downs : GoDownForACause run

-- the transcript is legal for the script over what it began from
abbrev pub Legal : Script → Opening → Transcript → Type 0
Legal script opening transcript = IsLegal (execution_of script opening transcript)
