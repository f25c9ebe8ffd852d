-- The primaries that went down, and what their sessions are answered from then on.
use Rattle.std.specs.Prelude.{◌≡◌, ℕ, ◌+◌, ◌≤◌, Bool, true, false, ◌==◌, ◌&&◌, List, [], ◌∷◌}
use Rattle.std.specs.List.{list_any, AllByRecursion}
use Rattle.mp_model.specs.declared.replies.Answer.{Answer}
use Rattle.mp_model.specs.declared.replies.Reply.{Reply}
use Rattle.mp_model.specs.declared.replies.Reply.TheVariants.{Unknown, Stopped}
use Rattle.mp_model.specs.declared.transcripts.Down.{Down}
use Rattle.mp_script.specs.Execution.{Execution, runs_on}
use Rattle.mp_script.specs.Below.{EachInItsPart}

-- the primaries of the `down` lines rise, from a bound on
abbrev pub DownsRise : ℕ → List Down → Type 0
DownsRise low [] = Unit {0}
DownsRise low (down ∷ downs) = (low ≤ down.primary) × DownsRise (down.primary + 1) downs

-- the primary whose log failed has a line of its own
abbrev pub HaveTheirCause : List Down → Type 0
HaveTheirCause downs = AllByRecursion (λ down. list_any (λ cause. cause.primary == down.by && cause.by == down.by) downs ≡ true) downs

-- a commit of unknown end goes with its own primary's line
abbrev pub IsNamedDown : Execution → Answer → Type 0
IsNamedDown run answer = (number : ℕ) → answer.reply ≡ Unknown number → list_any (λ down. down.by == down.primary && runs_on run answer.session down.primary) run.downs ≡ true

-- two sessions have one primary
abbrev pub same_primary : Execution → ℕ → ℕ → Bool
same_primary run session other = list_any (λ on. on.session == session && runs_on run other on.primary) run.sessions

-- a reply that shows its primary down
abbrev pub shows_down : Reply → Bool
shows_down (Unknown number) = true
shows_down (Stopped by) = true
shows_down _ = false

abbrev pub is_stopped : Reply → Bool
is_stopped (Stopped by) = true
is_stopped _ = false

-- once an answer above showed a session's primary down, the session is stopped
abbrev pub StaysDown : Execution → List Answer → Answer → Type 0
StaysDown run above answer = list_any (λ other. same_primary run other.session answer.session && shows_down other.reply) above ≡ true → is_stopped answer.reply ≡ true

-- the `down` lines rise and have their causes, unknown ends are named there, and what is down stays down
pub record GoDownForACause (run : Execution) : Type 0 where
  pub rise : DownsRise 0 run.downs
  pub causes : HaveTheirCause run.downs
  pub named : AllByRecursion (IsNamedDown run) run.answers
  pub stay : EachInItsPart run (λ primary. StaysDown run)
