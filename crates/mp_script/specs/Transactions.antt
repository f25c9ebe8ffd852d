-- Which transaction a statement is of, and what the answers say of it.
use Rattle.std.specs.Prelude.{List, [], ◌∷◌, ℕ, zero, suc, ◌+◌, ◌-◌, Bool, true, false, ◌==◌, ◌&&◌, ◌||◌, if◌then◌else◌, Option, Some, None}
use Rattle.mp_model.specs.declared.ids.TrxName.{TrxName}
use Rattle.mp_model.specs.declared.replies.Answer.{Answer}
use Rattle.mp_model.specs.declared.replies.Reply.{Reply}
use Rattle.mp_model.specs.declared.replies.Reply.TheVariants.{Began, Wrote, Committed, Unknown, Conflict, Held, Full}
use Rattle.mp_model.specs.declared.replies.WriteVerb.{WriteVerb}
use Rattle.mp_model.specs.declared.replies.WriteVerb.TheVariants as verb
use Rattle.mp_script.specs.declared.statements.Line.{Line}
use Rattle.mp_script.specs.declared.statements.Stmt.{Stmt}
use Rattle.mp_script.specs.declared.statements.Stmt.TheVariants.{Begin, Put, Del, Copy}
use Rattle.mp_script.specs.Execution.{Execution, stmt_in, stmt_at, reply_at}

abbrev pub begins : Option Stmt → Bool
begins (Some Begin) = true
begins _ = false

-- the number of the `begin` of a statement's transaction: the last one at or above it in its session
abbrev pub begin_in : List Line → ℕ → ℕ → ℕ
begin_in lines session zero = zero
begin_in lines session (suc before) = if begins (stmt_in lines session (suc before)) then suc before else begin_in lines session before

-- the transaction of a statement
abbrev pub trx_in_lines : List Line → ℕ → ℕ → TrxName
trx_in_lines lines session index = record { session = session; first = begin_in lines session index }

abbrev pub trx_at : Execution → ℕ → ℕ → TrxName
trx_at run session index = trx_in_lines run.lines session index

-- the transaction of an answer's statement
abbrev pub trx_of : Execution → Answer → TrxName
trx_of run answer = trx_at run answer.session answer.index

-- how many lines stand above a statement in the script
abbrev pub line_place : List Line → ℕ → ℕ → ℕ
line_place [] session index = 0
line_place (line ∷ lines) session index = if (line.session == session && line.index == index) then 0 else line_place lines session index + 1

abbrev pub same_trx : TrxName → TrxName → Bool
same_trx a b = a.session == b.session && a.first == b.first

-- the view that a `begin` was answered, or else the base
abbrev pub view_in : ℕ → Option Reply → ℕ
view_in base (Some (Began view)) = view
view_in base _ = base

-- the view of a transaction
abbrev pub view_of : Execution → TrxName → ℕ
view_of run trx = view_in run.opening.base (reply_at run trx.session trx.first)

-- the view that a statement reads by: that of its transaction
abbrev pub view_at : Execution → ℕ → ℕ → ℕ
view_at run session index = view_of run (trx_at run session index)

-- how many statements stand between a transaction's `begin` and one of its statements
abbrev pub statements_before : TrxName → ℕ → ℕ
statements_before trx index = index - trx.first - 1

-- the timestamp that a commit was answered, also one of unknown end
abbrev pub cts_of : Reply → Option ℕ
cts_of (Committed number) = Some number
cts_of (Unknown number) = Some number
cts_of _ = None

-- the timestamp of an acknowledged commit
abbrev pub acknowledged_cts : Reply → Option ℕ
acknowledged_cts (Committed number) = Some number
acknowledged_cts _ = None

abbrev pub is_number : ℕ → Option ℕ → Bool
is_number number (Some other) = other == number
is_number number None = false

-- a write was answered ok
abbrev pub is_wrote : Option Reply → Bool
is_wrote (Some (Wrote _)) = true
is_wrote _ = false

-- a write was refused, which ends its transaction
abbrev pub is_refusal : Option Reply → Bool
is_refusal (Some (Conflict _ _)) = true
is_refusal (Some (Held _ _)) = true
is_refusal (Some (Full _)) = true
is_refusal _ = false

-- what a statement writes: its verb and its key
pub record Target : Type 0 where
  pub verb : WriteVerb
  pub key : ℕ

abbrev pub target_of : Stmt → Option Target
target_of (Put key value) = Some (record { verb = verb.Put; key = key })
target_of (Del key) = Some (record { verb = verb.Del; key = key })
target_of (Copy from to) = Some (record { verb = verb.Copy; key = to })
target_of _ = None

abbrev pub target_key : Option Stmt → Option ℕ
target_key (Some (Put key value)) = Some key
target_key (Some (Del key)) = Some key
target_key (Some (Copy from to)) = Some to
target_key _ = None

-- the key that a statement wrote, where it was answered ok
abbrev pub wrote_at : Execution → ℕ → ℕ → Option ℕ
wrote_at run session index = if is_wrote (reply_at run session index) then target_key (stmt_at run session index) else None

-- among the first statements after its `begin`, a transaction wrote the key
abbrev pub wrote_among : Execution → TrxName → ℕ → ℕ → Bool
wrote_among run trx zero key = false
wrote_among run trx (suc count) key = wrote_among run trx count key || is_number key (wrote_at run trx.session (trx.first + suc count))

-- before this statement, its transaction wrote the key
abbrev pub wrote_before : Execution → ℕ → ℕ → ℕ → Bool
wrote_before run session index key = let trx = trx_at run session index in wrote_among run trx (statements_before trx index) key

-- among the first statements after its `begin`, one of a transaction was refused
abbrev pub refused_among : Execution → TrxName → ℕ → Bool
refused_among run trx zero = false
refused_among run trx (suc count) = refused_among run trx count || is_refusal (reply_at run trx.session (trx.first + suc count))

-- before this statement, one of its transaction was refused
abbrev pub refused_before : Execution → ℕ → ℕ → Bool
refused_before run session index = let trx = trx_at run session index in refused_among run trx (statements_before trx index)
