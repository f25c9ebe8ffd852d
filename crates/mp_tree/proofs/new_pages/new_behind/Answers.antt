-- One page behind the other.
use Rattle.mp_tree.proofs.NewPages.{front_three}
use Rattle.mp_tree.proofs.new_pages.new_behind.Goals as goal

pub returns-clause-front : goal.returns-clause-front
returns-clause-front c = front_three c.args.from c.next_clear-first.result c.behind.result c.next_clear-second.result c.behind-2.result c.next_clear-third.result c.args.meta.now.bits c.next_clear-first.ensures c.behind.ensures.value c.next_clear-second.ensures c.behind-2.ensures.value c.next_clear-third.ensures
