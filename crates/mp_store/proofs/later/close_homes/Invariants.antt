-- No more than gates of later sides changed, and the pages so far have none.
use Rattle.std.proofs.Common.{◌≡◌, ◌≤◌, ℕ, IsTrue, List, length}
use Rattle.mp_store.specs.Layout.{store_length}
use Rattle.mp_store.specs.OpenStores.{NoLaterBelow}
use Rattle.mp_store.specs.LaterSides.{AllShut}
use Rattle.mp_store.proofs.later.close_homes.Given as goal

abbrev pub invariant-loop-number : goal.invariant-loop-number
invariant-loop-number g l = let disk = g.D.Disk in record {
  tells : disk.tells l.disk ≡ disk.tells l.initial.disk;
  kept : IsTrue (disk.tells l.initial.disk) → (file : List ℕ) → store_length ≤ length file
      → AllShut l.generation file (disk.seen l.initial.disk) (disk.image l.initial.disk) → AllShut l.generation file (disk.seen l.disk) (disk.image l.disk);
  closed : IsTrue (disk.tells l.initial.disk) → NoLaterBelow l.number l.generation (disk.seen l.disk);
  known : disk.known l.initial.disk ≤ disk.known l.disk;
  counted : disk.faults l.initial.disk ≤ disk.faults l.disk;
}
