-- The pages so far are passed; the disk holds no more than the pass may leave.
use Rattle.std.proofs.Common.{◌≡◌, ◌≤◌, ℕ, IsTrue, List}
use Rattle.mp_cells.specs.PageMaps.{page_at}
use Rattle.mp_store.specs.Passes.{bodies_of, AllPassed, PassedBelow, PagesBelow}
use Rattle.mp_store.proofs.passes.change_all.Given as goal

abbrev pub invariant-loop-number : goal.invariant-loop-number
invariant-loop-number g l = let disk = g.D.Disk in let bodies = bodies_of l.header.generation l.header.llsn (page_at l.pages.items) in record {
  tells : disk.tells l.disk ≡ disk.tells l.initial.disk;
  kept : IsTrue (disk.tells l.initial.disk) → (file : List ℕ)
      → AllPassed l.pass l.store l.marks.items bodies file (disk.seen l.initial.disk) (disk.image l.initial.disk)
      → AllPassed l.pass l.store l.marks.items bodies file (disk.seen l.disk) (disk.image l.disk);
  done : IsTrue (disk.tells l.initial.disk) → (file : List ℕ)
      → AllPassed l.pass l.store l.marks.items bodies file (disk.seen l.initial.disk) (disk.image l.initial.disk)
      → PassedBelow l.number l.pass l.store l.marks.items bodies file (disk.seen l.disk);
  pages : PagesBelow l.number l.marks.items l.header.llsn (page_at l.pages.items);
  known : disk.known l.initial.disk ≤ disk.known l.disk;
  counted : disk.faults l.initial.disk ≤ disk.faults l.disk;
}
