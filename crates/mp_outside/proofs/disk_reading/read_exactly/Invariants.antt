-- What was filled so far is what the file has there, the disk is as it was, and no fault was forgotten.
use Rattle.std.proofs.Common.{◌≡◌, ◌-◌, ◌≤◌, IsTrue, length, take, drop}
use Rattle.mp_outside.specs.Disks.{Quiet}
use Rattle.mp_outside.proofs.disk_reading.read_exactly.Given as goal

abbrev pub invariant-pieces : goal.invariant-pieces
invariant-pieces g l = let disk = g.D.Disk in record {
  within : l.filled ≤ length l.into;
  tells : disk.tells l.disk ≡ disk.tells l.initial.disk;
  quiet : Quiet (disk.seen l.initial.disk) (disk.image l.initial.disk) (disk.seen l.disk) (disk.image l.disk);
  filled : IsTrue (disk.tells l.initial.disk) → take l.filled l.into ≡ take l.filled (drop l.place (disk.seen l.initial.disk));
  known : disk.known l.disk ≡ disk.known l.initial.disk;
  counted : disk.faults l.initial.disk ≤ disk.faults l.disk;
}

abbrev pub decreases-pieces : goal.decreases-pieces
decreases-pieces g l = length l.into - l.filled
