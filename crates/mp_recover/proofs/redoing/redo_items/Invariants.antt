-- The records that are left, redone from here, give what all of them give.
use Rattle.std.proofs.Common.{◌≡◌, drop, length}
use Rattle.std.specs.List.{AllByRecursion}
use Rattle.mp_cells.specs.PageMaps.{page_at}
use Rattle.mp_recover.specs.Redoing.{records_redone, RecordFits}
use Rattle.mp_recover.proofs.redoing.redo_items.Given as goal

abbrev pub invariant-loop-item : goal.invariant-loop-item
invariant-loop-item l =
    (length l.pages.items ≡ 4096)
    × AllByRecursion RecordFits (drop l.item-index l.items)
    × (records_redone l.llsn (drop l.item-index l.items) (page_at l.pages.items) ≡ records_redone l.llsn l.items (page_at l.initial.pages.items))
