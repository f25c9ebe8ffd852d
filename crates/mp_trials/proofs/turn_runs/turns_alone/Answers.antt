use Rattle.std.proofs.Common.{lit≤}
use Rattle.mp_shared.proofs.FreshStores.{fresh_fits}
use Rattle.mp_trials.proofs.Forced.{forced_fresh}
use Rattle.mp_trials.proofs.turn_runs.turns_alone.Goals as goal

pub open-requires : goal.open-requires
open-requires c = fresh_fits 4 4 _ c.in_ok-pages.ensures (lit≤ tt) (lit≤ tt) (lit≤ tt)

pub turns_by-node-requires-clause-forced : goal.turns_by-node-requires-clause-forced
turns_by-node-requires-clause-forced c = forced_fresh 4 4 _ c.in_ok-shared.shared c.in_ok-shared.node c.in_ok-shared.ensures.opened.0 c.in_ok-shared.ensures.opened.1 1 (lit≤ tt) (lit≤ tt)
