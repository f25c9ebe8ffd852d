-- What is read is the front of what the file has from the place on.
use Rattle.std.proofs.Common.{◌≡◌, ◌-◌, length, take, drop, min, arith}
use Rattle.std.proofs.lemmas.Slice.{between_is}
use Rattle.mp_outside.proofs.mem_disk.MemDiskDisk.read.Goals as goal

pub returns-clause-gives : goal.returns-clause-gives
returns-clause-gives c =
    let size = c.self.inside.size in
    let bytes = c.self.inside.bytes.items in
    let left : take (size - c.args.place) (drop c.args.place bytes) ≡ drop c.args.place (take size bytes) = between_is bytes c.args.place size in
    let count : c.min-count.result ≡ min (length c.args.into.now) (length (drop c.args.place (take size bytes))) = rw (c.deref.ensures.value, left) at c.min-count.ensures in
    let copied : c.copy_from_slice.new.self ≡ take c.min-count.result (drop c.args.place (take size bytes)) = rw (c.deref.ensures.value, left) at c.copy_from_slice.ensures.after in
    rw (← c.self.view_is) (record { within = omega arith; front = rw copied })
