-- The lanes below the place are filled; the others have what they had.
use Rattle.std.proofs.Common.{◌≡◌, ℕ, List, length}
use Rattle.mp_cells.specs.declared.records.Mtr.{Mtr}
use Rattle.mp_files.specs.Nine.{seen_at, EachTells, KeptLogs}
use Rattle.mp_recover.specs.Merging.{LaneSound, LaneGoes, EachLane, LanesLeft, FilledBelow}
use Rattle.mp_recover.proofs.merging.fill_all.Given as goal

abbrev pub invariant-loop-place : goal.invariant-loop-place
invariant-loop-place g l =
    (length l.lanes.items ≡ 8)
    × KeptLogs g.D.Disk l.initial.logs.items l.logs.items
    × EachLane LaneSound l.lanes.items
    × (EachLane LaneGoes l.initial.lanes.items → EachLane LaneGoes l.lanes.items)
    × ((lefts : ℕ → List Mtr) → EachTells g.D.Disk l.initial.logs.items → LanesLeft l.initial.lanes.items (seen_at g.D.Disk l.initial.logs.items) lefts
    → LanesLeft l.lanes.items (seen_at g.D.Disk l.initial.logs.items) lefts × FilledBelow l.place l.lanes.items (seen_at g.D.Disk l.initial.logs.items) lefts)
