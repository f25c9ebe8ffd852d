-- As many logs as were opened.
use Rattle.std.proofs.Common.{◌≡◌, length}
use Rattle.mp_app.proofs.opening.open_logs.Given as goal

abbrev pub invariant-loop-before : goal.invariant-loop-before
invariant-loop-before l = length l.logs.items ≡ l.before
