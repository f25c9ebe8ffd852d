-- Worked transcripts of primaries that go down.
use Rattle.std.specs.Prelude.{[], ◌∷◌}
use Rattle.mp_model.specs.declared.replies.Reply.TheVariants.{Began, Wrote, Unknown, Stopped}
use Rattle.mp_model.specs.declared.replies.WriteVerb.TheVariants as verb
use Rattle.mp_script.specs.Execution.{Execution}
use Rattle.mp_script.specs.Worked.{reply_to, down, step_of}
use Rattle.mp_script.specs.WorkedScripts.{goes_down, ends_unknown, no_statement}

-- the log of the second primary fails in its commit
abbrev pub stopped_after_unknown : Execution
stopped_after_unknown = step_of goes_down (reply_to 1 (Began 0) ∷ reply_to 1 (Wrote verb.Put) ∷ reply_to 1 (Unknown 1) ∷ reply_to 1 (Stopped 2) ∷ []) (down 2 2 ∷ []) 1

-- a primary that is down answers nothing else
abbrev pub stopped_from_the_first : Execution
stopped_from_the_first = step_of ends_unknown (reply_to 1 (Stopped 2) ∷ reply_to 1 (Stopped 2) ∷ reply_to 1 (Stopped 2) ∷ []) (down 2 2 ∷ []) 0

-- no `down` line
abbrev pub stopped_by_nobody : Execution
stopped_by_nobody = step_of goes_down (reply_to 1 (Began 0) ∷ reply_to 1 (Wrote verb.Put) ∷ reply_to 1 (Unknown 1) ∷ reply_to 1 (Stopped 2) ∷ []) [] 1

-- the `down` line has another number
abbrev pub stopped_by_another : Execution
stopped_by_another = step_of goes_down (reply_to 1 (Began 0) ∷ reply_to 1 (Wrote verb.Put) ∷ reply_to 1 (Unknown 1) ∷ reply_to 1 (Stopped 2) ∷ []) (down 2 1 ∷ []) 1

-- a primary that is down begins a transaction
abbrev pub begins_when_down : Execution
begins_when_down = step_of goes_down (reply_to 1 (Began 0) ∷ reply_to 1 (Wrote verb.Put) ∷ reply_to 1 (Unknown 1) ∷ reply_to 1 (Began 1) ∷ []) (down 2 2 ∷ []) 1

-- no `down` line for a commit of unknown end
abbrev pub unknown_without_down : Execution
unknown_without_down = step_of ends_unknown (reply_to 1 (Began 0) ∷ reply_to 1 (Wrote verb.Put) ∷ reply_to 1 (Unknown 1) ∷ []) [] 1

-- the `down` lines are out of order
abbrev pub downs_that_fall : Execution
downs_that_fall = step_of no_statement ([]) (down 2 2 ∷ down 1 2 ∷ []) 0

-- the primary whose log failed is up
abbrev pub down_without_its_cause : Execution
down_without_its_cause = step_of no_statement ([]) (down 1 2 ∷ []) 0
