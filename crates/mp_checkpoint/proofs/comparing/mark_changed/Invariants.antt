-- The marks so far; the store is open, and its disk only looked at.
use Rattle.std.proofs.Common.{◌≡◌, true, IsTrue, length}
use Rattle.mp_cells.specs.PageMaps.{page_at}
use Rattle.mp_files.specs.Nine.{KeptDisk}
use Rattle.mp_checkpoint.specs.Saving.{MarksBelow}
use Rattle.mp_checkpoint.proofs.comparing.mark_changed.Given as goal

abbrev pub invariant-loop-number : goal.invariant-loop-number
invariant-loop-number g l = let disk = g.D.Disk in record {
  same_reference : l.store.disk.ghost_name ≡ l.initial.store.disk.ghost_name;
  header : l.store.header ≡ l.initial.store.header;
  live : l.store.live ≡ true;
  kept : KeptDisk disk l.initial.store.disk.now l.store.disk.now;
  count : length l.marks.items ≡ l.number;
  marked : IsTrue (disk.tells l.initial.store.disk.now)
      → MarksBelow l.number l.marks.items (page_at l.pages.items) l.initial.store.header.generation (disk.seen l.initial.store.disk.now);
}
