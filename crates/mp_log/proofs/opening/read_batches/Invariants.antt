-- The batches so far are read, the disk is as it was, and no fault of the disk was forgotten.
use Rattle.std.proofs.Common.{◌≡◌, ◌+◌, ◌-◌, ◌≤◌, IsTrue, length}
use Rattle.mp_outside.specs.Disks.{Quiet}
use Rattle.mp_log.specs.Opening.{IsTied}
use Rattle.mp_log.proofs.Opened.{BatchesSoFar}
use Rattle.mp_log.proofs.opening.read_batches.Given as goal

abbrev pub invariant-loop : goal.invariant-loop
invariant-loop g l = let disk = g.D.Disk in record {
  tells : disk.tells l.disk ≡ disk.tells l.initial.disk;
  quiet : Quiet (disk.seen l.initial.disk) (disk.image l.initial.disk) (disk.seen l.disk) (disk.image l.disk);
  so_far : IsTrue (disk.tells l.initial.disk) → l.size ≡ length (disk.seen l.initial.disk) → BatchesSoFar l.node (disk.seen l.initial.disk) l.initial.llsns.items (l.size + 1 - l.counter) l.gate l.last l.llsns.items;
  within : l.gate ≤ l.size;
  room : length l.into ≡ 65536;
  known : disk.known l.disk ≡ disk.known l.initial.disk;
  tied : IsTied 0 l.initial.llsns.items → IsTied l.last l.llsns.items;
  counted : disk.faults l.initial.disk ≤ disk.faults l.disk;
}
