use Rattle.std.proofs.Common.{◌≡◌, drop}
use Rattle.mp_script.specs.Execution.{stmt_in}
use Rattle.mp_summary.proofs.counting.find_stmt.Given as goal

abbrev pub invariant-loop-line : goal.invariant-loop-line
invariant-loop-line l = stmt_in (drop l.line-index l.lines) l.session l.index ≡ stmt_in l.lines l.session l.index
