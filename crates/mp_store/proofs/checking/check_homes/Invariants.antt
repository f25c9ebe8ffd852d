-- The homes so far have no fault, the disk is as it was, and no fault of the disk was forgotten.
use Rattle.std.proofs.Common.{◌≡◌, ◌≤◌, IsTrue, None}
use Rattle.mp_outside.specs.Disks.{Quiet}
use Rattle.mp_store.specs.StoreFiles.{homes_fault}
use Rattle.mp_store.proofs.checking.check_homes.Given as goal

abbrev pub invariant-loop-number : goal.invariant-loop-number
invariant-loop-number g l = let disk = g.D.Disk in record {
  tells : disk.tells l.disk ≡ disk.tells l.initial.disk;
  quiet : Quiet (disk.seen l.initial.disk) (disk.image l.initial.disk) (disk.seen l.disk) (disk.image l.disk);
  sound : IsTrue (disk.tells l.initial.disk) → homes_fault l.generation l.number (disk.seen l.initial.disk) ≡ None;
  known : disk.known l.disk ≡ disk.known l.initial.disk;
  counted : disk.faults l.initial.disk ≤ disk.faults l.disk;
}
