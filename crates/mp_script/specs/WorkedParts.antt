-- Worked transcripts with answers and numbers that are missing, too many or elsewhere.
use Rattle.std.specs.Prelude.{ℕ, List, [], ◌∷◌, Some}
use Rattle.mp_model.specs.declared.key_value.KeyValue.{KeyValue}
use Rattle.mp_model.specs.declared.replies.Reply.TheVariants.{Began, Got, Wrote, Committed, CommittedNone}
use Rattle.mp_model.specs.declared.replies.WriteVerb.TheVariants as verb
use Rattle.mp_model.specs.declared.transcripts.Mode.TheVariants.{Step}
use Rattle.mp_script.specs.Execution.{Execution, execution_of}
use Rattle.mp_script.specs.Worked.{reply_to, step_of, run_of, all_of, row}
use Rattle.mp_script.specs.WorkedScripts.{read_behind, two_keys, begin_again, ends_unknown, no_statement}

-- a statement without an answer
abbrev pub one_left : Execution
one_left = step_of read_behind (reply_to 1 (Began 0) ∷ reply_to 1 (Wrote verb.Put) ∷ reply_to 1 (Committed 1) ∷ reply_to 2 (Began 1) ∷ reply_to 2 (Got (Some (97 ∷ []))) ∷ []) [] 1

-- an answer without a statement
abbrev pub one_too_many : Execution
one_too_many = step_of begin_again (reply_to 1 (Began 0) ∷ reply_to 1 (Wrote verb.Put) ∷ reply_to 1 (Committed 1) ∷ reply_to 1 (Began 1) ∷ reply_to 1 CommittedNone ∷ reply_to 1 CommittedNone ∷ []) [] 1

-- each session is answered in the part of the other
abbrev pub in_the_other_part : Execution
in_the_other_part = run_of two_keys (reply_to 2 (Began 0) ∷ reply_to 2 (Wrote verb.Put) ∷ reply_to 2 (Committed 1) ∷ []) (reply_to 1 (Began 0) ∷ reply_to 1 (Wrote verb.Put) ∷ reply_to 1 (Committed 2) ∷ []) 2

-- the only commit has the number 2
abbrev pub number_that_skips : Execution
number_that_skips = step_of ends_unknown (reply_to 1 (Began 0) ∷ reply_to 1 (Wrote verb.Put) ∷ reply_to 1 (Committed 2) ∷ []) [] 1

-- two commits have the number 1
abbrev pub number_twice : Execution
number_twice = step_of two_keys (reply_to 1 (Began 0) ∷ reply_to 1 (Wrote verb.Put) ∷ reply_to 1 (Committed 1) ∷ reply_to 2 (Began 0) ∷ reply_to 2 (Wrote verb.Put) ∷ reply_to 2 (Committed 1) ∷ []) [] 2

-- a commit is numbered as its view
abbrev pub number_at_its_view : Execution
number_at_its_view = step_of ends_unknown (reply_to 1 (Began 1) ∷ reply_to 1 (Wrote verb.Put) ∷ reply_to 1 (Committed 1) ∷ []) [] 1

-- the last line counts one commit too many
abbrev pub commit_that_is_not_there : Execution
commit_that_is_not_there = step_of ends_unknown (reply_to 1 (Began 0) ∷ reply_to 1 (Wrote verb.Put) ∷ reply_to 1 (Committed 1) ∷ []) [] 2

-- a script without statements over these rows, whose base is 0, in a transcript of this base
abbrev pub nothing_over : List KeyValue → ℕ → Execution
nothing_over rows base = execution_of no_statement (record { base = 0; taken = 2; rows = all_of rows }) (record {
  mode = Step;
  base = base;
  parts = all_of (record { primary = 0; answers = all_of [] } ∷ []);
  downs = all_of [];
  commits = 0;
})

-- two rows, in the order of their keys or not
abbrev pub rows_in_order : List KeyValue
rows_in_order = row 3 (97 ∷ []) ∷ row 5 (98 ∷ []) ∷ []

abbrev pub rows_out_of_order : List KeyValue
rows_out_of_order = row 5 (98 ∷ []) ∷ row 3 (97 ∷ []) ∷ []
