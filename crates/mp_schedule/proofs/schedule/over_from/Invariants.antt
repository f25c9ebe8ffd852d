use Rattle.std.proofs.Common.{◌≤◌, ◌-◌, length}
use Rattle.mp_schedule.specs.Schedules.{AreOverBelow}
use Rattle.mp_schedule.proofs.schedule.over_from.Given as goal

abbrev pub invariant-loop-place : goal.invariant-loop-place
invariant-loop-place l = record {
  within : l.place ≤ length l.tries;
  over : AreOverBelow l.place l.tries;
}

abbrev pub decreases-loop-place : goal.decreases-loop-place
decreases-loop-place l = length l.tries - l.place
