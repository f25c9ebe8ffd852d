-- The text has the taken pages so far; the store is open, and its disk only looked at.
use Rattle.std.proofs.Common.{◌≡◌, ◌++◌, true, IsTrue}
use Rattle.mp_files.specs.Nine.{KeptDisk}
use Rattle.mp_commands.specs.Dumps.{taken_texts}
use Rattle.mp_commands.proofs.dumping.push_pages.Given as goal

abbrev pub invariant-loop-number : goal.invariant-loop-number
invariant-loop-number g l = let disk = g.D.Disk in record {
  same_reference : l.store.disk.ghost_name ≡ l.initial.store.disk.ghost_name;
  header : l.store.header ≡ l.initial.store.header;
  live : l.store.live ≡ true;
  kept : KeptDisk disk l.initial.store.disk.now l.store.disk.now;
  text : IsTrue (disk.tells l.initial.store.disk.now)
      → l.text.items ≡ l.initial.text.items ++ taken_texts l.initial.store.header.generation l.map l.number (disk.seen l.initial.store.disk.now);
}
