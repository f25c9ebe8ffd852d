-- The empty range may stand anywhere.
use Rattle.std.proofs.Common.{◌≤◌, length, ap}
use Rattle.mp_outside.proofs.Moves.{moved}
use Rattle.mp_outside.proofs.mem_disk.MemDisk.begin.Goals as goal

pub invariant_of-self : goal.invariant_of-self
invariant_of-self c =
    let fields = c.self.inside in
    let room : c.args.place ≤ length fields.bytes.items = rw (ap (λ d. d.room) c.self.view_is) c.requires in
    (moved fields.bytes.items fields.synced.items fields.marks.items fields.size fields.synced_size fields.from fields.to c.args.place c.self.invariant.0 c.if-self.true room, c.self.invariant.1)
