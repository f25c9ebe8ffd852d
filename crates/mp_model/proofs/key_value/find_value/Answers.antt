-- The look-up at the key's place finds what stands at the key.
use Rattle.mp_model.proofs.Edits.{found_value, no_value}
use Rattle.mp_model.proofs.key_value.find_value.Goals as goal

pub returns-then-holds_at : goal.returns-then-holds_at
returns-then-holds_at c = found_value c.args.rows.now.items c.requires c.args.key c.place_of-i.result (rw (← c.as_slice.ensures) c.place_of-i.ensures.below) (rw (← c.as_slice.ensures) c.place_of-i.ensures.above) c.get.result.now c.get.ensures (rw (← c.as_slice-2.ensures, ← c.holds_at.ensures) c.if-holds_at.true)

pub returns-else-holds_at : goal.returns-else-holds_at
returns-else-holds_at c = no_value c.args.rows.now.items c.requires c.args.key c.place_of-i.result (rw (← c.as_slice.ensures) c.place_of-i.ensures.below) (rw (← c.as_slice.ensures) c.place_of-i.ensures.above) (rw (← c.as_slice-2.ensures, ← c.holds_at.ensures) c.if-holds_at.false)
