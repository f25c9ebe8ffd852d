-- Worked replies: refusals, waits, copies and scans.
use Rattle.std.specs.Prelude.{ℕ, [], ◌∷◌, None}
use Rattle.mp_model.specs.declared.replies.Reply.TheVariants.{Began, Got, Scanned, Wrote, Committed, CommittedNone, RolledBack, Conflict, Held, Full, Skipped}
use Rattle.mp_model.specs.declared.replies.WriteVerb.TheVariants as verb
use Rattle.mp_model.specs.declared.transcripts.Mode.TheVariants.{Step}
use Rattle.mp_script.specs.Execution.{Execution, execution_of}
use Rattle.mp_script.specs.Worked.{reply_to, reply_after, trx_named, answers_below, step_of, all_of, row}
use Rattle.mp_script.specs.WorkedScripts.{same_key, same_key_rolled, crossed, in_a_circle, put_again, put_once, copied, scanned_rows}

-- the first waits for the second, and is refused by its commit
abbrev pub conflict_after_a_wait : Execution
conflict_after_a_wait = step_of same_key (reply_to 1 (Began 0) ∷ reply_to 2 (Began 0) ∷ reply_to 2 (Wrote verb.Put) ∷ reply_to 2 (Committed 1) ∷ reply_after 1 (Conflict verb.Put 1) (trx_named 2 1 ∷ []) ∷ reply_to 1 Skipped ∷ []) [] 1

-- the same; a wait need not be shown
abbrev pub conflict_without_a_wait : Execution
conflict_without_a_wait = step_of same_key (reply_to 1 (Began 0) ∷ reply_to 2 (Began 0) ∷ reply_to 2 (Wrote verb.Put) ∷ reply_to 2 (Committed 1) ∷ reply_to 1 (Conflict verb.Put 1) ∷ reply_to 1 Skipped ∷ []) [] 1

-- the first waits for the second, and its put is done
abbrev pub ok_after_a_rollback : Execution
ok_after_a_rollback = step_of same_key_rolled (reply_to 1 (Began 0) ∷ reply_to 2 (Began 0) ∷ reply_to 2 (Wrote verb.Put) ∷ reply_to 2 RolledBack ∷ reply_after 1 (Wrote verb.Put) (trx_named 2 1 ∷ []) ∷ reply_to 1 (Committed 1) ∷ []) [] 1

-- the second is refused, since the older first holds the key
abbrev pub held_by_an_older : Execution
held_by_an_older = step_of crossed (reply_to 1 (Began 0) ∷ reply_to 2 (Began 0) ∷ reply_to 1 (Wrote verb.Put) ∷ reply_to 2 (Wrote verb.Put) ∷ reply_to 2 (Held verb.Put (trx_named 1 1)) ∷ reply_after 1 (Wrote verb.Put) (trx_named 2 1 ∷ []) ∷ reply_to 1 (Committed 1) ∷ reply_to 2 Skipped ∷ []) [] 1

-- the third is held by the first, and the first refused by the commit of the second
abbrev pub held_and_conflict : Execution
held_and_conflict = step_of in_a_circle (reply_to 1 (Began 0) ∷ reply_to 2 (Began 0) ∷ reply_to 3 (Began 0) ∷ reply_to 1 (Wrote verb.Put) ∷ reply_to 2 (Wrote verb.Put) ∷ reply_to 3 (Wrote verb.Put) ∷ reply_to 3 (Held verb.Put (trx_named 1 1)) ∷ reply_after 2 (Wrote verb.Put) (trx_named 3 1 ∷ []) ∷ reply_to 2 (Committed 1) ∷ reply_after 1 (Conflict verb.Put 1) (trx_named 2 1 ∷ []) ∷ reply_to 1 Skipped ∷ reply_to 3 Skipped ∷ []) [] 1

-- it deletes the key that it writes
abbrev pub copy_of_no_row : Execution
copy_of_no_row = step_of copied (reply_to 1 (Began 0) ∷ reply_to 1 (Wrote verb.Put) ∷ reply_to 1 (Wrote verb.Copy) ∷ reply_to 1 (Got None) ∷ reply_to 1 (Committed 1) ∷ []) [] 1

-- they show what the transaction wrote
abbrev pub scans_of_own_writes : Execution
scans_of_own_writes = step_of scanned_rows (reply_to 1 (Began 0) ∷ reply_to 1 (Wrote verb.Put) ∷ reply_to 1 (Wrote verb.Put) ∷ reply_to 1 (Wrote verb.Put) ∷ reply_to 1 (Wrote verb.Del) ∷ reply_to 1 (Scanned (all_of (row 1 (97 ∷ []) ∷ row 3 (99 ∷ []) ∷ []))) ∷ reply_to 1 (Scanned (all_of (row 3 (99 ∷ []) ∷ []))) ∷ reply_to 1 (Scanned (all_of ([]))) ∷ reply_to 1 (Committed 1) ∷ []) [] 1

-- the one write is refused over a store without rows of which so many pages are taken
abbrev pub full_over : ℕ → Execution
full_over taken = execution_of put_once (record { base = 0; taken = taken; rows = all_of [] }) (record {
  mode = Step;
  base = 0;
  parts = all_of (record { primary = 0; answers = all_of (answers_below [] (reply_to 1 (Began 0) ∷ reply_to 1 (Full verb.Put) ∷ reply_to 1 Skipped ∷ [])) } ∷ []);
  downs = all_of [];
  commits = 0;
})

-- there is no commit with the number 2
abbrev pub conflict_with_no_commit : Execution
conflict_with_no_commit = step_of same_key (reply_to 1 (Began 0) ∷ reply_to 2 (Began 0) ∷ reply_to 2 (Wrote verb.Put) ∷ reply_to 2 (Committed 1) ∷ reply_to 1 (Conflict verb.Put 2) ∷ reply_to 1 Skipped ∷ []) [] 1

-- a refused transaction ends in `commit none`
abbrev pub commit_after_a_refusal : Execution
commit_after_a_refusal = step_of same_key (reply_to 1 (Began 0) ∷ reply_to 2 (Began 0) ∷ reply_to 2 (Wrote verb.Put) ∷ reply_to 2 (Committed 1) ∷ reply_to 1 (Conflict verb.Put 1) ∷ reply_to 1 CommittedNone ∷ []) [] 1

-- one transaction is waited for twice
abbrev pub waits_twice : Execution
waits_twice = step_of same_key (reply_to 1 (Began 0) ∷ reply_to 2 (Began 0) ∷ reply_to 2 (Wrote verb.Put) ∷ reply_to 2 (Committed 1) ∷ reply_after 1 (Conflict verb.Put 1) (trx_named 2 1 ∷ trx_named 2 1 ∷ []) ∷ reply_to 1 Skipped ∷ []) [] 1

-- the holder began later
abbrev pub held_by_a_younger : Execution
held_by_a_younger = step_of crossed (reply_to 1 (Began 0) ∷ reply_to 2 (Began 0) ∷ reply_to 1 (Wrote verb.Put) ∷ reply_to 2 (Wrote verb.Put) ∷ reply_to 1 (Held verb.Put (trx_named 2 1)) ∷ reply_to 1 Skipped ∷ reply_to 2 (Wrote verb.Put) ∷ reply_to 2 (Committed 1) ∷ []) [] 1

-- the commit is of the same session
abbrev pub conflict_with_itself : Execution
conflict_with_itself = step_of put_again (reply_to 1 (Began 0) ∷ reply_to 1 (Wrote verb.Put) ∷ reply_to 1 (Committed 1) ∷ reply_to 1 (Began 0) ∷ reply_to 1 (Conflict verb.Put 1) ∷ reply_to 1 Skipped ∷ []) [] 1

-- two writes need ten pages at most
abbrev pub full_of_few_writes : Execution
full_of_few_writes = step_of put_again (reply_to 1 (Began 0) ∷ reply_to 1 (Wrote verb.Put) ∷ reply_to 1 (Committed 1) ∷ reply_to 1 (Began 1) ∷ reply_to 1 (Full verb.Put) ∷ reply_to 1 Skipped ∷ []) [] 1
