-- Where the `begin` of a statement's transaction stands.
use Rattle.std.proofs.Common.{◌≡◌, ℕ, zero, suc, ◌≤◌, Bool, true, false, Some, refl, arith}
use Rattle.mp_script.specs.declared.statements.Stmt.{Stmt}
use Rattle.mp_script.specs.declared.statements.Stmt.TheVariants.{Begin, Get, Put, Del, Copy, Scan, Commit, Rollback}
use Rattle.mp_script.specs.Execution.{Execution, stmt_at}
use Rattle.mp_script.specs.Transactions.{begins, begin_in}
use Rattle.mp_script.specs.Spelling.{MayStand}

-- a `begin` is numbered at most as its statement
pub begin_within : (run : Execution) (session index : ℕ) → begin_in run.lines session index ≤ index
begin_within run session zero = omega arith
begin_within run session (suc index) = go (begins (stmt_at run session (suc index))) refl (begin_within run session index)
  where
    go : (b : Bool) → begins (stmt_at run session (suc index)) ≡ b → begin_in run.lines session index ≤ index → begin_in run.lines session (suc index) ≤ suc index
    go true e le = rw e (omega arith)
    go false e le = rw e (omega arith)

-- a statement that may stand in an open transaction doesn't begin one
pub begins_not : (stmt : Stmt) → MayStand true stmt → begins (Some stmt) ≡ false
begins_not Begin may = absurd may
begins_not (Get key) may = refl
begins_not (Put key value) may = refl
begins_not (Del key) may = refl
begins_not (Copy from to) may = refl
begins_not (Scan low most) may = refl
begins_not Commit may = refl
begins_not Rollback may = refl
