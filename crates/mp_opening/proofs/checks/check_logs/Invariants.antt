-- No log below the place has an LLSN above the base.
use Rattle.mp_opening.specs.BeginningChecks.{above_at, NoneAboveBelow}
use Rattle.mp_opening.proofs.checks.check_logs.Given as goal

abbrev pub invariant-loop-place : goal.invariant-loop-place
invariant-loop-place g l = NoneAboveBelow (above_at l.base l.logs.items) l.place
