-- So many zeros stand there, after so many calls.
use Rattle.std.proofs.Common.{◌≡◌, ◌≤◌, ◌+◌, ◌-◌, ◌*◌, ◌^◌, min, IsTrue, length}
use Rattle.mp_gated.specs.Gates.{calls_after}
use Rattle.mp_store.specs.FreshStores.{zeros}
use Rattle.mp_store.proofs.fresh.write_zeros.Given as goal

abbrev pub invariant-loop-part : goal.invariant-loop-part
invariant-loop-part g l = let disk = g.D.Disk in record {
  tells : disk.tells l.disk ≡ disk.tells l.initial.disk;
  blank : IsTrue (disk.tells l.initial.disk) → length (disk.seen l.initial.disk) ≡ 0 → disk.seen l.disk ≡ zeros (l.part * 4224);
  counted : disk.faults l.initial.disk ≤ disk.faults l.disk;
  exact : min (disk.calls l.disk) (2 ^ 64 - 1) ≡ calls_after l.part (disk.calls l.initial.disk);
  calls : disk.calls l.disk ≤ disk.calls l.initial.disk + l.part;
}
