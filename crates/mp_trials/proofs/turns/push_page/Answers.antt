use Rattle.mp_trials.proofs.Forced.{forced_holds}
use Rattle.mp_trials.proofs.Tries.{durable_page, pushed_keeps, pushed_pages}
use Rattle.mp_trials.proofs.turns.push_page.Goals as goal

pub push-requires-clause-part : goal.push-requires-clause-part
push-requires-clause-part c = forced_holds c.args.node.now c.args.p c.requires.forced

pub push-requires-clause-durable : goal.push-requires-clause-durable
push-requires-clause-durable c = durable_page c.args.node.now c.args.p c.args.page c.requires.forced

pub returns-clause-keeps : goal.returns-clause-keeps
returns-clause-keeps c = pushed_keeps c.args.p c.args.page c.args.node.now _ c.args.pool.now c.push.ensures.left

pub returns-clause-pages : goal.returns-clause-pages
returns-clause-pages c k has = pushed_pages c.args.p c.args.page c.args.node.now _ c.args.pool.now c.push.ensures.left _ c.requires.forced c.push.ensures.cleaned k has
