-- Small runs: a transaction puts a row and commits, and its commit is acknowledged or of unknown end, or is read by another
-- one; and what may be kept of it.
use Rattle.std.specs.Prelude.{ℕ, List, [], ◌∷◌, Some, None}
use Rattle.mp_model.specs.declared.replies.Answer.{Answer}
use Rattle.mp_model.specs.declared.replies.Reply.{Reply}
use Rattle.mp_model.specs.declared.replies.Reply.TheVariants.{Began, Got, Wrote, Committed, Unknown}
use Rattle.mp_model.specs.declared.replies.WriteVerb.TheVariants as verb
use Rattle.mp_cells.specs.declared.rows.Row.{Row}
use Rattle.mp_histories.specs.SmallHistory.{small_trx}
use Rattle.mp_script.specs.declared.statements.Script.{Script}
use Rattle.mp_script.specs.declared.statements.Stmt.TheVariants.{Begin, Get, Put, Commit}
use Rattle.mp_script.specs.Execution.{Execution}
use Rattle.mp_script.specs.Worked.{ReplyTo, script_on, on, reply_to, all_of, down, step_of}
use Rattle.mp_recover.specs.KeptCommits.{KeptCommit}

-- session 1 puts a row and commits
abbrev pub one_put : Script
one_put = script_on 1 (on 1 1 ∷ []) ((1, Begin) ∷ (1, Put 7 (66 ∷ [])) ∷ (1, Commit) ∷ [])

abbrev pub replies_to_put : Reply → List ReplyTo
replies_to_put end = reply_to 1 (Began 0) ∷ reply_to 1 (Wrote verb.Put) ∷ reply_to 1 end ∷ []

-- its commit is acknowledged
abbrev pub acknowledged_put : Execution
acknowledged_put = step_of one_put (replies_to_put (Committed 1)) [] 1

-- its end is unknown
abbrev pub unknown_put : Execution
unknown_put = step_of one_put (replies_to_put (Unknown 1)) (down 1 1 ∷ []) 1

-- then session 2 reads that row and puts another one
abbrev pub put_then_read : Execution
put_then_read = step_of (script_on 1 (on 1 1 ∷ on 2 1 ∷ []) ((1, Begin) ∷ (1, Put 7 (66 ∷ [])) ∷ (1, Commit) ∷ (2, Begin) ∷ (2, Get 7) ∷ (2, Put 9 (66 ∷ [])) ∷ (2, Commit) ∷ []))
    (reply_to 1 (Began 0) ∷ reply_to 1 (Wrote verb.Put) ∷ reply_to 1 (Committed 1) ∷ reply_to 2 (Began 1) ∷ reply_to 2 (Got (Some (66 ∷ []))) ∷ reply_to 2 (Wrote verb.Put) ∷ reply_to 2 (Committed 2) ∷ []) [] 2

-- the answer to a statement that waited for nothing
abbrev pub answer_without_waits : ℕ → ℕ → Reply → Answer
answer_without_waits session index reply = record { session = session; index = index; reply = reply; waits = all_of [] }

-- the row that session 1 put
abbrev pub row_of_put : Row
row_of_put = record { key = 7; value = Some (66 ∷ []); writer = Some (small_trx 0); link = None }

-- a commit of it
abbrev pub kept_put : ℕ → List Row → KeptCommit
kept_put cts puts = record { id = small_trx 0; cts = cts; puts = puts }
