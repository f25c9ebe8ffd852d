-- The reader has the rest of the log left, and the text so far with that rest is the whole log's.
use Rattle.std.proofs.Common.{◌≡◌, ◌+◌, ◌++◌, List, IsTrue, length}
use Rattle.std.specs.List.{flat_map}
use Rattle.mp_cells.specs.declared.records.Mtr.{Mtr}
use Rattle.mp_log.specs.declared.readers.State.TheVariants.{Reading}
use Rattle.mp_log.specs.Readers.{log_mtrs, Remains}
use Rattle.mp_files.specs.Nine.{KeptDisk}
use Rattle.mp_commands.specs.LogTexts.{mtr_text}
use Rattle.mp_commands.proofs.log_printing.push_mtrs.Given as goal

abbrev pub invariant-loop-count : goal.invariant-loop-count
invariant-loop-count g l =
    KeptDisk g.D.Disk l.initial.disk l.disk
    × (l.reader.state ≡ Reading)
    × (IsTrue (g.D.Disk.tells l.initial.disk) →
    (rest : List Mtr)
    × Remains l.reader (g.D.Disk.seen l.initial.disk) rest (log_mtrs l.primary (g.D.Disk.seen l.initial.disk)).1
    × (l.text.items ++ flat_map mtr_text rest ≡ l.initial.text.items ++ flat_map mtr_text (log_mtrs l.primary (g.D.Disk.seen l.initial.disk)).0)
    × (l.count + length rest ≡ length (log_mtrs l.primary (g.D.Disk.seen l.initial.disk)).0))
