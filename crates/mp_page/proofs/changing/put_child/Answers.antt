-- The child is put where the inner page takes it.
use Rattle.std.proofs.Common.{sym, ◌∙◌}
use Rattle.mp_page.proofs.Applied.{inner_rises, child_room, child_refused, child_done}
use Rattle.mp_page.proofs.changing.put_child.Goals as goal

pub returns-then-not-takes_child : goal.returns-then-not-takes_child
returns-then-not-takes_child c = λ llsn. rw c.in-Inner.is (child_refused llsn c.in-Inner.low c.in-Inner.high c.in-Inner.children c.args.child.now (record {}) (sym (c.takes_child.ensures llsn) ∙ c.if-not-takes_child.true))

pub put_at_key-requires-clause-rises : goal.put_at_key-requires-clause-rises
put_at_key-requires-clause-rises c = let kept = rw c.in-Inner.is at c.requires in inner_rises c.in-Inner.low c.in-Inner.high c.in-Inner.children kept.0

pub put_at_key-requires-clause-room : goal.put_at_key-requires-clause-room
put_at_key-requires-clause-room c = child_room 0 c.in-Inner.low c.in-Inner.high c.in-Inner.children c.args.child.now (sym (c.takes_child.ensures 0) ∙ c.if-not-takes_child.false)

pub returns : goal.returns
returns c = λ llsn. rw c.in-Inner.is (child_done llsn c.in-Inner.low c.in-Inner.high c.in-Inner.children c.args.child.now _ (sym (c.takes_child.ensures llsn) ∙ c.if-not-takes_child.false) c.put_at_key.ensures)
