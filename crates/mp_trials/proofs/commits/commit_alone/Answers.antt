use Rattle.std.proofs.Common.{arith, lit≤}
use Rattle.mp_trx_fusion.proofs.FreshRuns.{fresh_fits, may_begin_fresh, log_fresh}
use Rattle.mp_trials.proofs.commits.commit_alone.Goals as goal

pub open-requires : goal.open-requires
open-requires c = fresh_fits 4 800 _ c.in_ok-pages.ensures (lit≤ tt) (lit≤ tt) (lit≤ tt)

pub commit_many-node-requires-clause-may : goal.commit_many-node-requires-clause-may
commit_many-node-requires-clause-may c = (λ version above within. may_begin_fresh 4 800 _ c.in_ok-shared.shared c.in_ok-shared.node c.in_ok-shared.ensures.opened.0 c.in_ok-shared.ensures.opened.1 1 version (lit≤ tt) (lit≤ tt) above (omega arith), log_fresh 4 800 _ c.in_ok-shared.shared c.in_ok-shared.node c.in_ok-shared.ensures.opened.0 c.in_ok-shared.ensures.opened.1 1 (lit≤ tt) (lit≤ tt))
