-- What a transaction sees: the commits at or below its view, and its own writes over them.
use Rattle.std.specs.Prelude.{ℕ, zero, suc, ◌+◌, if◌then◌else◌, List, [], ◌∷◌, ◌++◌, Option, Some, None, find}
use Rattle.mp_model.specs.Folded.{over, before, value_at}
use Rattle.mp_model.specs.declared.histories.Commit.{Commit}
use Rattle.mp_model.specs.declared.ids.TrxName.{TrxName}
use Rattle.mp_model.specs.declared.key_value.KeyValue.{KeyValue}
use Rattle.mp_model.specs.declared.key_value.KeyWrite.{KeyWrite}
use Rattle.mp_model.specs.declared.replies.Answer.{Answer}
use Rattle.mp_script.specs.declared.statements.Stmt.{Stmt}
use Rattle.mp_script.specs.declared.statements.Stmt.TheVariants.{Put, Del, Copy}
use Rattle.mp_script.specs.Execution.{Execution, stmt_at, reply_at}
use Rattle.mp_script.specs.Transactions.{is_wrote, is_number, acknowledged_cts, trx_of, trx_at, view_of, statements_before}

-- what a statement writes over the rows that it sees; a `copy` of no row deletes
abbrev pub write_by : List KeyValue → Option Stmt → List KeyWrite
write_by seen (Some (Put key value)) = record { key = key; value = Some value } ∷ []
write_by seen (Some (Del key)) = record { key = key; value = None } ∷ []
write_by seen (Some (Copy from to)) = record { key = to; value = value_at from seen } ∷ []
write_by seen _ = []

-- the write of a statement, where it was answered ok
abbrev pub write_at : Execution → List KeyValue → ℕ → ℕ → List KeyWrite
write_at run seen session index = if is_wrote (reply_at run session index) then write_by seen (stmt_at run session index) else []

-- the writes of the first statements after a transaction's `begin`, each over the rows of the view that it reads by
abbrev pub writes_among : Execution → (ℕ → List KeyValue) → TrxName → ℕ → List KeyWrite
writes_among run rows trx zero = []
writes_among run rows trx (suc count) =
    let made = writes_among run rows trx count in
    let index = trx.first + suc count in
    made ++ write_at run (over (rows index) made) trx.session index

-- a transaction's own writes before a statement, where `rows` are those of the view that each of its statements reads by
abbrev pub own_writes : Execution → (ℕ → List KeyValue) → TrxName → ℕ → List KeyWrite
own_writes run rows trx index = writes_among run rows trx (statements_before trx index)

-- the answer that acknowledges the commit with this number
abbrev pub acknowledgement : List Answer → ℕ → Option Answer
acknowledgement answers number = find (λ answer. is_number number (acknowledged_cts answer.reply)) answers

-- the acknowledged commit with a number, where there is one, by the commits with lower numbers
abbrev pub commit_by : Execution → List Commit → ℕ → Option Answer → List Commit
commit_by run lower number None = []
commit_by run lower number (Some answer) =
    let trx = trx_of run answer in
    let rows = before run.opening.rows.items lower (view_of run trx) in
    record { cts = number; writes = record { items = own_writes run (λ index. rows) trx answer.index; spare = 0 } } ∷ []

-- the acknowledged commits with the first numbers above the base
abbrev pub history : Execution → ℕ → List Commit
history run zero = []
history run (suc count) =
    let lower = history run count in
    let number = run.opening.base + suc count in
    lower ++ commit_by run lower number (acknowledgement run.answers number)

-- the rows of a transaction's view
abbrev pub rows_of_view : Execution → TrxName → List KeyValue
rows_of_view run trx = before run.opening.rows.items (history run run.commits) (view_of run trx)

-- what a statement's transaction sees before it: the rows of its view with its own writes over them
abbrev pub seen : Execution → ℕ → ℕ → List KeyValue
seen run session index =
    let trx = trx_at run session index in
    let rows = rows_of_view run trx in
    over rows (own_writes run (λ index. rows) trx index)
