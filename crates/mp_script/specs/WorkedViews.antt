-- Worked views, in both modes, and what is read by them.
use Rattle.std.specs.Prelude.{[], ◌∷◌, Some, None}
use Rattle.mp_model.specs.declared.replies.Reply.TheVariants.{Began, Got, Wrote, Committed, CommittedNone, Unknown}
use Rattle.mp_model.specs.declared.replies.WriteVerb.TheVariants as verb
use Rattle.mp_script.specs.Execution.{Execution}
use Rattle.mp_script.specs.Worked.{reply_to, reply_after, trx_named, down, step_of, run_of}
use Rattle.mp_script.specs.WorkedScripts.{read_twice, read_behind, two_keys, begin_again}

-- a view that stays
abbrev pub old_value_twice : Execution
old_value_twice = step_of read_twice (reply_to 2 (Began 0) ∷ reply_to 2 (Wrote verb.Put) ∷ reply_to 2 (Committed 1) ∷ reply_to 1 (Began 1) ∷ reply_to 1 (Got (Some (111 ∷ []))) ∷ reply_to 2 (Began 1) ∷ reply_to 2 (Wrote verb.Put) ∷ reply_to 2 (Committed 2) ∷ reply_to 1 (Got (Some (111 ∷ []))) ∷ reply_to 1 CommittedNone ∷ []) [] 2

-- the end of the first commit is unknown: the view is at it, and it shows nothing
abbrev pub unknown_is_not_read : Execution
unknown_is_not_read = step_of read_behind (reply_to 1 (Began 0) ∷ reply_to 1 (Wrote verb.Put) ∷ reply_to 1 (Unknown 1) ∷ reply_to 2 (Began 1) ∷ reply_to 2 (Got None) ∷ reply_to 2 CommittedNone ∷ []) (down 1 1 ∷ []) 1

-- the commit of the second primary comes first
abbrev pub numbers_across_parts : Execution
numbers_across_parts = run_of two_keys (reply_to 1 (Began 0) ∷ reply_to 1 (Wrote verb.Put) ∷ reply_to 1 (Committed 2) ∷ []) (reply_to 2 (Began 0) ∷ reply_to 2 (Wrote verb.Put) ∷ reply_to 2 (Committed 1) ∷ []) 2

-- the view of the second shows the commit of the first
abbrev pub view_across_parts : Execution
view_across_parts = run_of two_keys (reply_to 1 (Began 0) ∷ reply_to 1 (Wrote verb.Put) ∷ reply_to 1 (Committed 1) ∷ []) (reply_to 2 (Began 1) ∷ reply_to 2 (Wrote verb.Put) ∷ reply_to 2 (Committed 2) ∷ []) 2

-- the second read shows the later commit
abbrev pub new_value_then : Execution
new_value_then = step_of read_twice (reply_to 2 (Began 0) ∷ reply_to 2 (Wrote verb.Put) ∷ reply_to 2 (Committed 1) ∷ reply_to 1 (Began 1) ∷ reply_to 1 (Got (Some (111 ∷ []))) ∷ reply_to 2 (Began 1) ∷ reply_to 2 (Wrote verb.Put) ∷ reply_to 2 (Committed 2) ∷ reply_to 1 (Got (Some (110 ∷ []))) ∷ reply_to 1 CommittedNone ∷ []) [] 2

-- a commit of unknown end is read
abbrev pub read_of_unknown : Execution
read_of_unknown = step_of read_behind (reply_to 1 (Began 0) ∷ reply_to 1 (Wrote verb.Put) ∷ reply_to 1 (Unknown 1) ∷ reply_to 2 (Began 1) ∷ reply_to 2 (Got (Some (97 ∷ []))) ∷ reply_to 2 CommittedNone ∷ []) (down 1 1 ∷ []) 1

-- a `get` waits for a writer
abbrev pub get_that_waits : Execution
get_that_waits = step_of read_twice (reply_to 2 (Began 0) ∷ reply_to 2 (Wrote verb.Put) ∷ reply_to 2 (Committed 1) ∷ reply_to 1 (Began 1) ∷ reply_after 1 (Got (Some (111 ∷ []))) (trx_named 2 1 ∷ []) ∷ reply_to 2 (Began 1) ∷ reply_to 2 (Wrote verb.Put) ∷ reply_to 2 (Committed 2) ∷ reply_to 1 (Got (Some (111 ∷ []))) ∷ reply_to 1 CommittedNone ∷ []) [] 2

-- a view below a commit above it
abbrev pub view_at_the_base : Execution
view_at_the_base = step_of read_twice (reply_to 2 (Began 0) ∷ reply_to 2 (Wrote verb.Put) ∷ reply_to 2 (Committed 1) ∷ reply_to 1 (Began 0) ∷ reply_to 1 (Got None) ∷ reply_to 2 (Began 1) ∷ reply_to 2 (Wrote verb.Put) ∷ reply_to 2 (Committed 2) ∷ reply_to 1 (Got None) ∷ reply_to 1 CommittedNone ∷ []) [] 2

-- a view below a commit of unknown end above it
abbrev pub view_below_unknown : Execution
view_below_unknown = step_of read_behind (reply_to 1 (Began 0) ∷ reply_to 1 (Wrote verb.Put) ∷ reply_to 1 (Unknown 1) ∷ reply_to 2 (Began 0) ∷ reply_to 2 (Got None) ∷ reply_to 2 CommittedNone ∷ []) (down 1 1 ∷ []) 1

-- a view below a commit above it in its part
abbrev pub view_below_its_part : Execution
view_below_its_part = run_of begin_again (reply_to 1 (Began 0) ∷ reply_to 1 (Wrote verb.Put) ∷ reply_to 1 (Committed 1) ∷ reply_to 1 (Began 0) ∷ reply_to 1 CommittedNone ∷ []) ([]) 1

-- a view above the last commit
abbrev pub view_above_all : Execution
view_above_all = run_of begin_again (reply_to 1 (Began 0) ∷ reply_to 1 (Wrote verb.Put) ∷ reply_to 1 (Committed 1) ∷ reply_to 1 (Began 2) ∷ reply_to 1 CommittedNone ∷ []) ([]) 1
