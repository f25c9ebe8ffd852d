-- The disks of the logs that are left, before the list, are those of all; there is room for them.
use Rattle.std.proofs.Common.{◌≡◌, ◌+◌, ◌≤◌, ◌++◌, length, map}
use Rattle.std.specs.Prelude.{vec_capacity}
use Rattle.mp_log.specs.Tails.{LogView}
use Rattle.mp_opening.proofs.logs.put_before.Given as goal

abbrev pub invariant-loop-taken : goal.invariant-loop-taken
invariant-loop-taken g l =
    (map (λ (log : LogView _). log.disk) l.logs.items ++ l.disks.items ≡ map (λ (log : LogView _). log.disk) l.initial.logs.items ++ l.initial.disks.items)
    × (length l.logs.items + l.taken ≡ length l.initial.logs.items)
    × (length l.logs.items + length l.disks.items ≤ vec_capacity l.disks)
