-- The bytes that are left are those from the place on.
use Rattle.std.proofs.lemmas.List.{take_rest}
use Rattle.mp_outside.proofs.Given.{given}
use Rattle.mp_outside.proofs.mem_source.MemSourceSource.read.Goals as goal

pub returns-clause-bytes : goal.returns-clause-bytes
returns-clause-bytes c =
    let bytes = c.self.inside.bytes.items in
    let at = c.self.inside.at in
    let count = rw (c.deref.ensures.value, take_rest bytes at) at c.min-count.ensures in
    let copied = rw (c.deref.ensures.value, take_rest bytes at) at c.copy_from_slice.ensures.after in
    rw (← c.self.view_is) (given bytes c.args.into.now c.copy_from_slice.new.self at c.min-count.result count copied)
