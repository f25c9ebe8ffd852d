-- The fields are as a write makes them.
use Rattle.std.proofs.Common.{◌+◌, ◌≤◌, length, ap, ◌∙◌, rules, arith}
use Rattle.std.proofs.lemmas.List.{with_items_is}
use Rattle.mp_outside.proofs.Writes.{still_is, as_written}
use Rattle.mp_outside.proofs.mem_disk.MemDisk.put.Goals as goal

pub invariant_of-self : goal.invariant_of-self
invariant_of-self c =
    let fields = c.self.inside in
    let room : c.args.place + length c.args.bytes.now ≤ length fields.bytes.items = rw (ap (λ d. d.room) c.self.view_is) c.requires in (
      still_is fields.bytes.items fields.synced.items _ fields.marks.items _ fields.size fields.synced_size fields.from fields.to _ _ _ c.args.place c.args.bytes.now c.self.invariant.0 room
          (with_items_is fields.bytes c.put-end.new.buffer (search rules) ∙ rw (c.deref_mut.ensures.value) at c.put-end.ensures.buffer) (with_items_is fields.marks c.mark_write.new.marks (search rules) ∙ rw (c.deref_mut-2.ensures.value) at c.mark_write.ensures)
          (omega arith) (omega arith) (omega arith),
      record { low = omega arith; synced_low = omega arith; high = omega arith; synced_high = omega arith },
    )

pub returns : goal.returns
returns c =
    let fields = c.self.inside in
    let room : c.args.place + length c.args.bytes.now ≤ length fields.bytes.items = rw (ap (λ d. d.room) c.self.view_is) c.requires in
    rw (← c.self.view_is)
    (as_written fields.bytes.items fields.synced.items _ fields.marks.items _ fields.size fields.synced_size _ c.args.place fields.least fields.most _ c.args.bytes.now fields.calls c.self.invariant.0.within room
    (with_items_is fields.bytes c.put-end.new.buffer (search rules) ∙ rw (c.deref_mut.ensures.value) at c.put-end.ensures.buffer) (with_items_is fields.marks c.mark_write.new.marks (search rules) ∙ rw (c.deref_mut-2.ensures.value) at c.mark_write.ensures) (omega arith) (omega arith))
