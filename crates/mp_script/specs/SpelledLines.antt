-- What is true of the statements of a script that bytes spell.
use Rattle.std.specs.Prelude.{◌≡◌, ℕ, ◌<◌, ◌≤◌, ◌^◌, true, List, Some, count_by}
use Rattle.mp_model.specs.Values.{is_value}
use Rattle.mp_model.specs.declared.key_value.KeyValue.{KeyValue}
use Rattle.mp_script.specs.declared.statements.Line.{Line}
use Rattle.mp_script.specs.Words.{IsStmt}
use Rattle.mp_script.specs.Execution.{line_at, stmt_in}
use Rattle.mp_script.specs.Transactions.{begins, begin_in}

-- a statement's session, number, keys, value and count of rows are ones that a script may have
pub record IsLineInRange (line : Line) : Type 0 where
  pub session_low : 1 ≤ line.session
  pub session_high : line.session ≤ 64
  pub index_low : 1 ≤ line.index
  pub index_high : line.index ≤ 10000
  pub stmt : IsStmt line.stmt

-- a row's key and value are ones that a statement may write
pub record IsRowInRange (row : KeyValue) : Type 0 where
  pub key : row.key < 2 ^ 32
  pub value : is_value row.value ≡ true

-- each statement has its transaction's `begin` at or above it in its session
abbrev pub HaveTheirBegin : List Line → Type 0
HaveTheirBegin lines = (session index : ℕ) (line : Line) → line_at lines session index ≡ Some line → begins (stmt_in lines session (begin_in lines session index)) ≡ true

-- how many transactions the statements begin
abbrev pub begin_count : List Line → ℕ
begin_count lines = count_by (λ line. begins (Some line.stmt)) lines
