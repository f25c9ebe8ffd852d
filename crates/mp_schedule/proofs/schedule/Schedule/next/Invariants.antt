use Rattle.std.proofs.Common.{◌≡◌, length}
use Rattle.mp_schedule.proofs.Scanning.{ScannedTo}
use Rattle.mp_schedule.proofs.schedule.Schedule.next.Given as goal

abbrev pub invariant-loop-place : goal.invariant-loop-place
invariant-loop-place l = record {
  size : length l.busy ≡ 256;
  scan : ScannedTo l.self.tries.items l.place l.busy l.waits;
}
