-- The logs below the place were opened, each on the disk of its place.
use Rattle.std.proofs.Common.{◌≡◌, ◌≤◌, length}
use Rattle.std.specs.Prelude.{vec_capacity}
use Rattle.mp_opening.specs.OpeningLogs.{TakesOut}
use Rattle.mp_opening.proofs.logs.open_each.Given as goal

abbrev pub invariant-loop-place : goal.invariant-loop-place
invariant-loop-place g l =
    TakesOut g.D.Disk l.initial.disks.items l.disks.items l.logs.items
    × (length l.logs.items ≡ l.place)
    × (8 ≤ vec_capacity l.logs)
    × (vec_capacity l.initial.disks ≤ vec_capacity l.disks)
