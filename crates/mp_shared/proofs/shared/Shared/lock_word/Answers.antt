use Rattle.std.proofs.Common.{◌≡◌, rules, refl}
use Rattle.mp_core_pages.specs.declared.event.PagesEvent.TheVariants.{LockWord}
use Rattle.mp_core.specs.declared.event.CoreEvent.TheVariants.{Pages}
use Rattle.mp_shared.proofs.Noted.{notes_lock}
use Rattle.mp_shared.proofs.Steps.{kept_same, kept_locked, notes_mine, took}
use Rattle.mp_shared.proofs.PageTold.{took_found, locked_by}
use Rattle.mp_shared.proofs.shared.Shared.lock_word.Goals as goal

pub invariant_of-node : goal.invariant_of-node
invariant_of-node c = kept_same _ _ _ c.self.view_is _ _ _ c.node.view_is c.requires.run _ _ _ c.node.invariant (Pages (LockWord c.args.p c.args.page c.args.old c.args.new)) c.requires.step _ _ _ c.compare_exchange-found.ensures.seat.0 c.compare_exchange-found.ensures.event tt (search rules) tt refl

pub returns-then-found-old-clause-step : goal.returns-then-found-old-clause-step
returns-then-found-old-clause-step c = (search rules, took _ _ _ c.self.view_is _ _ _ c.node.view_is c.requires.run _ _ _ c.node.invariant (Pages (LockWord c.args.p c.args.page c.args.old c.args.new)) c.requires.step _ _ c.compare_exchange-found.ensures.event)

pub invariant_of-node-2 : goal.invariant_of-node-2
invariant_of-node-2 c =
    let same : c.compare_exchange-found.result ≡ c.args.old = search rules in
    let told = c.compare_exchange-found.ensures.event in
    let before = notes_mine _ _ _ c.self.view_is _ _ _ c.node.view_is c.requires.run _ _ _ c.node.invariant (Pages (LockWord c.args.p c.args.page c.args.old c.args.new)) c.requires.step _ _ told in
    kept_locked _ _ _ c.self.view_is _ _ _ c.node.view_is c.requires.run _ _ _ c.node.invariant (Pages (LockWord c.args.p c.args.page c.args.old c.args.new)) c.requires.step _ _ _ c.compare_exchange-found.ensures.seat.0 told tt tt refl c.set.new.self.tables
    (notes_lock _ c.args.p c.args.page c.args.old c.args.new c.compare_exchange-found.result told.0 c.requires.step.0 same c.taken_as.result c.taken_as.ensures (c.set.ensures.here _ before))
    c.set.ensures.others

pub returns-clause-step : goal.returns-clause-step
returns-clause-step c =
    let same : c.compare_exchange-found.result ≡ c.args.old = search rules in
    took_found (Pages (LockWord c.args.p c.args.page c.args.old c.args.new)) c.args.node.now _ c.compare_exchange-found.result c.args.old same (took _ _ _ c.self.view_is _ _ _ c.node.view_is c.requires.run _ _ _ c.node.invariant (Pages (LockWord c.args.p c.args.page c.args.old c.args.new)) c.requires.step _ _ c.compare_exchange-found.ensures.event)

pub returns-clause-locked : goal.returns-clause-locked
returns-clause-locked c =
    let same : c.compare_exchange-found.result ≡ c.args.old = search rules in
    locked_by c.args.node.now _ c.args.p c.args.page c.args.old c.args.new c.compare_exchange-found.result same (took _ _ _ c.self.view_is _ _ _ c.node.view_is c.requires.run _ _ _ c.node.invariant (Pages (LockWord c.args.p c.args.page c.args.old c.args.new)) c.requires.step _ _ c.compare_exchange-found.ensures.event)
