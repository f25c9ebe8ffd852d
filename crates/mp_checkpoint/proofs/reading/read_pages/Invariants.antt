-- The pages so far are those in force; the store is open, and its disk only looked at.
use Rattle.std.proofs.Common.{◌≡◌, ℕ, ◌<◌, true, IsTrue, length}
use Rattle.mp_cells.specs.PageMaps.{page_at}
use Rattle.mp_files.specs.Nine.{KeptDisk}
use Rattle.mp_store.specs.StoreFiles.{page_in_force}
use Rattle.mp_checkpoint.proofs.reading.read_pages.Given as goal

abbrev pub invariant-loop-number : goal.invariant-loop-number
invariant-loop-number g l = let disk = g.D.Disk in record {
  same_reference : l.store.disk.ghost_name ≡ l.initial.store.disk.ghost_name;
  header : l.store.header ≡ l.initial.store.header;
  live : l.store.live ≡ true;
  kept : KeptDisk disk l.initial.store.disk.now l.store.disk.now;
  count : length l.pages.items ≡ l.number;
  pages : IsTrue (disk.tells l.initial.store.disk.now) → (n : ℕ) → n < l.number
      → page_at l.pages.items n ≡ page_in_force l.initial.store.header.generation n (disk.seen l.initial.store.disk.now);
}
