use Rattle.mp_core_pages.specs.PageEvents.{with_unlock}
use Rattle.mp_trials.proofs.Forced.{forced_holds, keeps_pages, forces_unlock, may_let_go, agrees_gone, held_gone}
use Rattle.mp_trials.proofs.turns.let_go.Goals as goal

pub release-requires-clause-may : goal.release-requires-clause-may
release-requires-clause-may c = may_let_go c.args.node.now c.args.p c.args.page c.requires.page c.requires.forced c.requires.agrees c.requires.lock

pub returns-clause-keeps : goal.returns-clause-keeps
returns-clause-keeps c = keeps_pages c.args.p c.args.node.now _ (with_unlock c.args.page) 1 (forces_unlock c.args.page) c.release.ensures.becomes

pub returns-clause-agrees : goal.returns-clause-agrees
returns-clause-agrees c = agrees_gone c.args.p c.args.page c.args.node.now _ c.release.ensures.becomes (forced_holds _ _ c.requires.forced) c.requires.agrees

pub returns-clause-others : goal.returns-clause-others
returns-clause-others c k other = held_gone c.args.p c.args.page c.args.node.now _ c.requires.forced.1.mine c.requires.forced.1.holds c.release.ensures.becomes k other
