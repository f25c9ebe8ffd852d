use Rattle.std.proofs.Common.{◌≡◌, rules, refl, ◌∙◌, subst}
use Rattle.mp_machine.specs.Rule.{MadeStep}
use Rattle.mp_core_pages.specs.declared.event.PagesEvent.TheVariants.{TakeFrame}
use Rattle.mp_core.specs.declared.event.CoreEvent.TheVariants.{Pages}
use Rattle.mp_core.specs.World.{core}
use Rattle.mp_shared.proofs.Steps.{one_table, fair, kept_same, took}
use Rattle.mp_shared.proofs.FrameTold.{got_frame, carried_first, kept_exchanged, took_frame}
use Rattle.mp_shared.proofs.shared.Shared.take_frame.Goals as goal

pub invariant_of-node : goal.invariant_of-node
invariant_of-node c = kept_same _ _ _ c.self.view_is _ _ _ c.node.view_is c.requires.run _ _ _ c.node.invariant (Pages (TakeFrame c.args.p c.args.page)) c.requires.step _ _ _ c.compare_exchange-found.ensures.seat.0 c.compare_exchange-found.ensures.event tt tt tt refl

pub returns-then-found-ne0 : goal.returns-then-found-ne0
returns-then-found-ne0 c = (c.compare_exchange-found.result, search rules, took _ _ _ c.self.view_is _ _ _ c.node.view_is c.requires.run _ _ _ c.node.invariant (Pages (TakeFrame c.args.p c.args.page)) c.requires.step _ _ c.compare_exchange-found.ensures.event)

pub exchange-taken-requires : goal.exchange-taken-requires
exchange-taken-requires c =
    let key = c.self.inside.table.table.shared.key in
    let me = c.node.inside.seat.me in
    let after = c.compare_exchange-found.new.seat.me in
    let free : c.compare_exchange-found.result ≡ 0 = search rules in
    let told = subst (λ found. MadeStep (core key) (Pages (TakeFrame c.args.p c.args.page)) me found after) free c.compare_exchange-found.ensures.event in
    let got = got_frame key (fair _ _ _ c.self.view_is _ _ _ c.node.view_is c.requires.run _ _ _ c.node.invariant (Pages (TakeFrame c.args.p c.args.page)) c.requires.step) me after c.args.p c.args.page told in
    (c.compare_exchange-found.ensures.seat.0 ∙ one_table _ _ _ c.self.view_is _ _ _ c.node.view_is c.requires.run _ _ _ c.node.invariant, (got.0, carried_first c.args.page c.from-2.result got.0 after.1 me.1 c.from-2.ensures got.2))

pub invariant_of-node-2 : goal.invariant_of-node-2
invariant_of-node-2 c =
    let kept = kept_same _ _ _ c.self.view_is _ _ _ c.node.view_is c.requires.run _ _ _ c.node.invariant (Pages (TakeFrame c.args.p c.args.page)) c.requires.step _ _ _ c.compare_exchange-found.ensures.seat.0 c.compare_exchange-found.ensures.event tt tt tt refl in
    kept_exchanged _ _ c.compare_exchange-found.new.seat.me _ _ kept c.from-2.result c.exchange-taken.result c.blank.result c.exchange-taken.new.seat.me c.exchange-taken.new.seat.table_id c.exchange-taken.ensures.seat.0 c.exchange-taken.ensures.value.0 c.exchange-taken.ensures.value.1

pub returns : goal.returns
returns c =
    let value = c.exchange-taken.ensures.value in
    took_frame _ _ _ c.self.view_is _ _ _ c.node.view_is c.requires.run _ _ _ c.node.invariant c.args.p c.args.page c.requires.step c.compare_exchange-found.result c.compare_exchange-found.new.seat.me (search rules) c.compare_exchange-found.ensures.event
    c.exchange-taken.new.seat.me c.from-2.result c.exchange-taken.result c.blank.result value.0 value.1
