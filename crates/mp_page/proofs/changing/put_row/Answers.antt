-- The row is put where the leaf takes it.
use Rattle.std.proofs.Common.{sym, ◌∙◌}
use Rattle.mp_page.proofs.Applied.{leaf_rises, row_room, put_refused, put_done}
use Rattle.mp_page.proofs.changing.put_row.Goals as goal

pub returns-then-not-takes_row : goal.returns-then-not-takes_row
returns-then-not-takes_row c = λ llsn. rw c.in-Leaf.is (put_refused llsn c.in-Leaf.low c.in-Leaf.high c.in-Leaf.rows c.args.row.now (record {}) (sym (c.takes_row.ensures llsn) ∙ c.if-not-takes_row.true))

pub put_at_key-requires-clause-rises : goal.put_at_key-requires-clause-rises
put_at_key-requires-clause-rises c = let kept = rw c.in-Leaf.is at c.requires in leaf_rises c.in-Leaf.low c.in-Leaf.high c.in-Leaf.rows kept.0

pub put_at_key-requires-clause-room : goal.put_at_key-requires-clause-room
put_at_key-requires-clause-room c = row_room 0 c.in-Leaf.low c.in-Leaf.high c.in-Leaf.rows c.args.row.now (sym (c.takes_row.ensures 0) ∙ c.if-not-takes_row.false)

pub returns : goal.returns
returns c = λ llsn. rw c.in-Leaf.is (put_done llsn c.in-Leaf.low c.in-Leaf.high c.in-Leaf.rows c.args.row.now _ (sym (c.takes_row.ensures llsn) ∙ c.if-not-takes_row.false) c.put_at_key.ensures)
