use Rattle.std.proofs.Common.{ap, lit≤}
use Rattle.mp_shared.specs.Nodes.{NodeView}
use Rattle.mp_shared.proofs.FreshStores.{fresh_fits, first_holds_all}
use Rattle.mp_trials.proofs.tables.open_and_close.Goals as goal

pub open-requires : goal.open-requires
open-requires c = fresh_fits 4 4 _ c.in_ok-pages.ensures (lit≤ tt) (lit≤ tt) (lit≤ tt)

pub close-requires-clause-parts : goal.close-requires-clause-parts
close-requires-clause-parts c = first_holds_all c.in_ok-shared.shared c.in_ok-shared.node c.in_ok-shared.ensures.opened.1
