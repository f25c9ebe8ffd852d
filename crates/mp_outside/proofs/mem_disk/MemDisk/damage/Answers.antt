-- Only bytes that a write had reached are changed.
use Rattle.std.proofs.Common.{◌≡◌, length, rules}
use Rattle.std.proofs.lemmas.List.{with_items_is}
use Rattle.mp_outside.proofs.Crashes.{damaged_still}
use Rattle.mp_outside.proofs.mem_disk.MemDisk.damage.Goals as goal

pub invariant_of-self : goal.invariant_of-self
invariant_of-self c =
    let fields = c.self.inside in
    let long : length c.leave.new.buffer ≡ length fields.bytes.items = search rules in
    rw (with_items_is fields.bytes c.leave.new.buffer (search rules))
    ((
      damaged_still fields.bytes.items c.leave.new.buffer fields.synced.items _ fields.marks.items fields.size fields.synced_size fields.from fields.to c.args.choice c.self.invariant.0 long
          (rw (c.deref_mut.ensures.value, c.deref-2.ensures.value) at c.leave.ensures.each) (rw (c.deref_mut.ensures.value) at c.leave.ensures.others),
      c.self.invariant.1,
    ))
