use Rattle.std.proofs.Common.{◌∷◌, refl, sym, ap, ◌∙◌}
use Rattle.atomic_table.specs.Table.{rest}
use Rattle.mp_core_pages.specs.declared.event.PagesEvent.TheVariants.{GiveFrame}
use Rattle.mp_core.specs.declared.event.CoreEvent.TheVariants.{Pages}
use Rattle.mp_shared.proofs.Steps.{one_table, can, kept_same, took}
use Rattle.mp_shared.proofs.FrameTold.{one_carried, same_view, kept_exchanged}
use Rattle.mp_shared.proofs.shared.Shared.give_frame.Goals as goal

pub exchange-requires : goal.exchange-requires
exchange-requires c =
    let me = c.node.inside.seat.me in
    let one = one_carried me.1 c.args.page (ap (λ x. x.frames) c.node.view_is ∙ c.requires.frames) in
    (one_table _ _ _ c.self.view_is _ _ _ c.node.view_is c.requires.run _ _ _ c.node.invariant, (one.0, one.1 ∙ (λ i. (sym c.from.ensures i, one.0) ∷ rest me.1)))

pub store-requires-clause-event : goal.store-requires-clause-event
store-requires-clause-event c =
    let r = c.node.inside.run.value in
    let me = c.node.inside.seat.me in
    let later = c.exchange.new.seat.me in
    let value = c.exchange.ensures.value in
    let one = one_carried me.1 c.args.page (ap (λ x. x.frames) c.node.view_is ∙ c.requires.frames) in
    let view_is = same_view r me later c.from.result c.exchange.result c.args.frame value.0 value.1 ∙ c.node.view_is in
    let kept = kept_exchanged r _ me _ _ c.node.invariant c.from.result c.exchange.result c.args.frame later c.exchange.new.seat.table_id c.exchange.ensures.seat.0 value.0 value.1 in
    let carries = ap (λ m. m.1) value.1 ∙ (λ i. (c.from.ensures i, c.args.frame) ∷ one.2 i) in
    can _ _ _ c.self.view_is r later _ view_is c.requires.run _ _ _ kept (Pages (GiveFrame c.args.p c.args.page c.args.frame)) c.requires.step carries _ _ c.turn_word_at.ensures (λ es all. refl)

pub invariant_of-node : goal.invariant_of-node
invariant_of-node c =
    let r = c.node.inside.run.value in
    let me = c.node.inside.seat.me in
    let later = c.exchange.new.seat.me in
    let value = c.exchange.ensures.value in
    let one = one_carried me.1 c.args.page (ap (λ x. x.frames) c.node.view_is ∙ c.requires.frames) in
    let view_is = same_view r me later c.from.result c.exchange.result c.args.frame value.0 value.1 ∙ c.node.view_is in
    let kept = kept_exchanged r _ me _ _ c.node.invariant c.from.result c.exchange.result c.args.frame later c.exchange.new.seat.table_id c.exchange.ensures.seat.0 value.0 value.1 in
    let carries = ap (λ m. m.1) value.1 ∙ (λ i. (c.from.ensures i, c.args.frame) ∷ one.2 i) in
    kept_same _ _ _ c.self.view_is r later _ view_is c.requires.run _ _ _ kept (Pages (GiveFrame c.args.p c.args.page c.args.frame)) c.requires.step _ _ _ c.store.ensures.seat.0 c.store.ensures.event.1 tt tt carries refl

pub returns : goal.returns
returns c =
    let r = c.node.inside.run.value in
    let me = c.node.inside.seat.me in
    let later = c.exchange.new.seat.me in
    let value = c.exchange.ensures.value in
    let one = one_carried me.1 c.args.page (ap (λ x. x.frames) c.node.view_is ∙ c.requires.frames) in
    let view_is = same_view r me later c.from.result c.exchange.result c.args.frame value.0 value.1 ∙ c.node.view_is in
    let kept = kept_exchanged r _ me _ _ c.node.invariant c.from.result c.exchange.result c.args.frame later c.exchange.new.seat.table_id c.exchange.ensures.seat.0 value.0 value.1 in
    let carries = ap (λ m. m.1) value.1 ∙ (λ i. (c.from.ensures i, c.args.frame) ∷ one.2 i) in
    (c.store.ensures.event.0, took _ _ _ c.self.view_is r later _ view_is c.requires.run _ _ _ kept (Pages (GiveFrame c.args.p c.args.page c.args.frame)) c.requires.step _ _ c.store.ensures.event.1)
