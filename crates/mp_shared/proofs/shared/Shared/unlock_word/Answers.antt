use Rattle.std.proofs.Common.{refl}
use Rattle.mp_core_pages.specs.declared.event.PagesEvent.TheVariants.{UnlockWord}
use Rattle.mp_core.specs.declared.event.CoreEvent.TheVariants.{Pages}
use Rattle.mp_shared.proofs.Noted.{notes_unlock}
use Rattle.mp_shared.proofs.Steps.{kept_locked, notes_mine, took}
use Rattle.mp_shared.proofs.PageTold.{unlocked_by}
use Rattle.mp_shared.proofs.shared.Shared.unlock_word.Goals as goal

pub invariant_of-node : goal.invariant_of-node
invariant_of-node c =
    let told = c.fetch_and-before.ensures.event in
    kept_locked _ _ _ c.self.view_is _ _ _ c.node.view_is c.requires.run _ _ _ c.node.invariant (Pages (UnlockWord c.args.p c.args.page)) c.requires.step _ _ _ c.fetch_and-before.ensures.seat.0 told tt tt refl c.set.new.self.tables
    (notes_unlock _ c.args.p c.args.page c.fetch_and-before.result told.0 c.requires.step.0 (c.set.ensures.here _ (notes_mine _ _ _ c.self.view_is _ _ _ c.node.view_is c.requires.run _ _ _ c.node.invariant (Pages (UnlockWord c.args.p c.args.page)) c.requires.step _ _ told)))
    c.set.ensures.others

pub returns-clause-step : goal.returns-clause-step
returns-clause-step c = took _ _ _ c.self.view_is _ _ _ c.node.view_is c.requires.run _ _ _ c.node.invariant (Pages (UnlockWord c.args.p c.args.page)) c.requires.step _ _ c.fetch_and-before.ensures.event

pub returns-clause-unlocked : goal.returns-clause-unlocked
returns-clause-unlocked c = unlocked_by c.args.node.now _ c.args.p c.args.page _ (took _ _ _ c.self.view_is _ _ _ c.node.view_is c.requires.run _ _ _ c.node.invariant (Pages (UnlockWord c.args.p c.args.page)) c.requires.step _ _ c.fetch_and-before.ensures.event)
