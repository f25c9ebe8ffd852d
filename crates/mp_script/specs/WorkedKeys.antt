-- Worked commits and writes of one key.
use Rattle.std.specs.Prelude.{[], ◌∷◌}
use Rattle.mp_model.specs.declared.replies.Reply.TheVariants.{Began, Wrote, Committed, RolledBack}
use Rattle.mp_model.specs.declared.replies.WriteVerb.TheVariants as verb
use Rattle.mp_script.specs.Execution.{Execution}
use Rattle.mp_script.specs.Worked.{reply_to, step_of}
use Rattle.mp_script.specs.WorkedScripts.{same_key, put_in_between, put_and_rolled}

-- two writes of a key stand side by side where neither commits
abbrev pub no_commit_of_either : Execution
no_commit_of_either = step_of put_and_rolled (reply_to 1 (Began 0) ∷ reply_to 1 (Wrote verb.Put) ∷ reply_to 2 (Began 0) ∷ reply_to 2 (Wrote verb.Put) ∷ reply_to 2 RolledBack ∷ reply_to 1 RolledBack ∷ []) [] 0

-- both commit the key from one view
abbrev pub lost_update : Execution
lost_update = step_of same_key (reply_to 1 (Began 0) ∷ reply_to 2 (Began 0) ∷ reply_to 2 (Wrote verb.Put) ∷ reply_to 2 (Committed 1) ∷ reply_to 1 (Wrote verb.Put) ∷ reply_to 1 (Committed 2) ∷ []) [] 2

-- the second writes between the write and the commit of the first
abbrev pub dirty_write : Execution
dirty_write = step_of put_in_between (reply_to 1 (Began 0) ∷ reply_to 1 (Wrote verb.Put) ∷ reply_to 2 (Began 0) ∷ reply_to 2 (Wrote verb.Put) ∷ reply_to 2 RolledBack ∷ reply_to 1 (Committed 1) ∷ []) [] 1
