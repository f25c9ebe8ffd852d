-- What is left to merge, redone from here, gives what all mtrs give.
use Rattle.std.proofs.Common.{◌≡◌, ◌++◌, List, length}
use Rattle.mp_cells.specs.declared.records.Mtr.{Mtr}
use Rattle.std.specs.List.{AllByRecursion}
use Rattle.mp_cells.specs.Mtrs.{IsMtr}
use Rattle.mp_cells.specs.PageMaps.{page_at}
use Rattle.mp_files.specs.Nine.{as_read, seen_at, EachTells, KeptLogs}
use Rattle.mp_recover.specs.Images.{all_logged}
use Rattle.mp_recover.specs.Merging.{LaneGoes, EachLane, Merges}
use Rattle.mp_recover.specs.Finding.{greatest_of, llsns_in, versions_in, FoundFits}
use Rattle.mp_recover.specs.Redoing.{mtrs_redone, mtrs_above, ids_in}
use Rattle.mp_recover.proofs.redoing_logs.redo_logs.Given as goal

abbrev pub invariant-loop : goal.invariant-loop
invariant-loop g l =
    (l.disks.store ≡ l.initial.disks.store)
    × KeptLogs g.D.Disk l.initial.disks.logs.items l.disks.logs.items
    × (length l.pages.items ≡ 4096)
    × EachLane LaneGoes l.fronts
    × (EachTells g.D.Disk l.initial.disks.logs.items → (rest : List Mtr) × Merges l.fronts (seen_at g.D.Disk l.initial.disks.logs.items) rest
    × (mtrs_redone (mtrs_above l.header.llsn rest) (page_at l.pages.items) ≡ mtrs_redone (mtrs_above l.header.llsn (all_logged (as_read g.D.Disk l.initial.disks))) (page_at l.initial.pages.items))
    × (l.found.ids.items ++ ids_in (mtrs_above l.header.llsn rest) ≡ ids_in (mtrs_above l.header.llsn (all_logged (as_read g.D.Disk l.initial.disks))))
    × (greatest_of l.found.llsn (llsns_in (mtrs_above l.header.llsn rest)) ≡ greatest_of l.header.llsn (llsns_in (mtrs_above l.header.llsn (all_logged (as_read g.D.Disk l.initial.disks)))))
    × (greatest_of l.found.version (versions_in (mtrs_above l.header.llsn rest)) ≡ greatest_of l.header.version (versions_in (mtrs_above l.header.llsn (all_logged (as_read g.D.Disk l.initial.disks)))))
    × (AllByRecursion IsMtr rest → AllByRecursion IsMtr (all_logged (as_read g.D.Disk l.initial.disks))))
    × FoundFits l.found
