-- What is left to read ends as all of the log does.
use Rattle.std.proofs.Common.{◌≡◌, List, IsTrue}
use Rattle.mp_cells.specs.declared.records.Mtr.{Mtr}
use Rattle.mp_files.specs.Nine.{KeptDisk}
use Rattle.mp_log.specs.declared.readers.State.TheVariants.{Reading}
use Rattle.mp_log.specs.Readers.{Remains, log_mtrs}
use Rattle.mp_recover.proofs.reading.read_log.Given as goal

abbrev pub invariant-loop : goal.invariant-loop
invariant-loop g l =
    KeptDisk g.D.Disk l.initial.disk l.disk
    × (l.reader.state ≡ Reading)
    × (IsTrue (g.D.Disk.tells l.initial.disk) → (left : List Mtr) × Remains l.reader (g.D.Disk.seen l.initial.disk) left (log_mtrs l.primary (g.D.Disk.seen l.initial.disk)).1)
