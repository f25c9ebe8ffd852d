-- The undo page first.
use Rattle.mp_tree.proofs.NewPages.{fresh_first}
use Rattle.mp_tree.proofs.new_pages.new_pages.Goals as goal

pub returns-then-fresh : goal.returns-then-fresh
returns-then-fresh c = rw c.if-fresh.true (fresh_first c.next_clear-undo.result c.behind.result c.new_behind.result c.args.meta.now c.new_behind.ensures.undo c.next_clear-undo.ensures c.behind.ensures.value c.new_behind.ensures.front)
