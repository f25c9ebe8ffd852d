-- What a session has to do, and what it keeps of its transaction.
use Rattle.std.specs.Prelude.{◌≡◌, ℕ, ◌+◌, List, [], ◌∷◌, ◌++◌, Option, None, Some, slice_get, Bool, if◌then◌else◌}
use Rattle.std.specs.List.{list_any}
use Rattle.mp_model.specs.declared.ids.TrxName.{TrxName}
use Rattle.mp_script.specs.declared.statements.Line.{Line}
use Rattle.mp_script.specs.Transactions.{same_trx}
use Rattle.mp_cells.specs.declared.rows.Row.{Row}
use Rattle.mp_cells.specs.Trees.{row_at}
use Rattle.mp_core_trx.specs.declared.part.Begun.{Begun}
use Rattle.mp_book.specs.declared.stage.Stage.{Stage}
use Rattle.mp_book.specs.declared.stage.Stage.TheVariants.{Closed, Open, Refused, Leaving, Skipping, Outside}
use Rattle.mp_book.specs.declared.stage.Task.{Task}
use Rattle.mp_book.specs.declared.stage.Task.TheVariants.{Statement, Unprinted, Nothing}
use Rattle.mp_book.specs.declared.session.Session.{Session}

-- the next statement, if one is left
abbrev pub next_line : Session → Option Line
next_line s = slice_get s.lines.items s.next

-- where no statement is left, a transaction that is open, or that is skipped, is to be rolled back
abbrev pub task_left : Stage → Task
task_left Closed = Nothing
task_left (Open trx) = Unprinted
task_left (Refused trx refusal) = Unprinted
task_left (Leaving trx) = Unprinted
task_left Skipping = Unprinted
task_left (Outside trx) = Nothing

abbrev pub task_by : Option Line → Stage → Task
task_by None stage = task_left stage
task_by (Some line) stage = Statement line

abbrev pub task_of : Session → Task
task_of s = task_by (next_line s) s.stage

-- the transaction of a session, where it has one
abbrev pub trx_of_stage : Stage → Option Begun
trx_of_stage Closed = None
trx_of_stage (Open trx) = Some trx
trx_of_stage (Refused trx refusal) = Some trx
trx_of_stage (Leaving trx) = Some trx
trx_of_stage Skipping = None
trx_of_stage (Outside trx) = trx

-- no two rows are of one key
abbrev pub HaveOneRowEach : List Row → Type 0
HaveOneRowEach [] = Unit {0}
HaveOneRowEach (row ∷ rows) = (row_at row.key rows ≡ None) × HaveOneRowEach rows

-- the rows that a transaction's first writes replaced, with that of one write more, where it is the first of its key
abbrev pub with_former : List Row → Option Row → List Row
with_former formers None = formers
with_former formers (Some row) = formers ++ row ∷ []

-- a transaction is among those named
abbrev pub is_named : TrxName → List TrxName → Bool
is_named name names = list_any (λ other. same_trx other name) names

-- the transactions that a statement waited for, with one more, each once
abbrev pub with_name : TrxName → List TrxName → List TrxName
with_name name names = if is_named name names then names else names ++ name ∷ []
