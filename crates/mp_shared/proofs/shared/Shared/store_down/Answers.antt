use Rattle.std.proofs.Common.{refl}
use Rattle.mp_core.specs.declared.event.CoreEvent.TheVariants.{Down}
use Rattle.mp_core.specs.declared.event.DownEvent.TheVariants.{StoreDown}
use Rattle.mp_shared.proofs.Steps.{one_table, place, within, can, kept_same, took}
use Rattle.mp_shared.proofs.DownTold.{down_by}
use Rattle.mp_shared.proofs.shared.Shared.store_down.Goals as goal

pub down_word_at-requires : goal.down_word_at-requires
down_word_at-requires c = place _ _ _ c.self.view_is _ _ _ c.node.view_is c.requires.run _ _ _ c.node.invariant (Down (StoreDown c.args.p c.args.by)) c.requires.step

pub store-requires-clause-table : goal.store-requires-clause-table
store-requires-clause-table c =
    (one_table _ _ _ c.self.view_is _ _ _ c.node.view_is c.requires.run _ _ _ c.node.invariant, refl, within _ _ _ c.self.view_is _ _ _ c.node.view_is c.requires.run _ _ _ c.node.invariant (Down (StoreDown c.args.p c.args.by)) c.requires.step _ _ c.self.invariant.0 c.down_word_at.ensures)

pub store-requires-clause-event : goal.store-requires-clause-event
store-requires-clause-event c = can _ _ _ c.self.view_is _ _ _ c.node.view_is c.requires.run _ _ _ c.node.invariant (Down (StoreDown c.args.p c.args.by)) c.requires.step tt _ _ c.down_word_at.ensures (λ es all. c.from.ensures)

pub invariant_of-node : goal.invariant_of-node
invariant_of-node c = kept_same _ _ _ c.self.view_is _ _ _ c.node.view_is c.requires.run _ _ _ c.node.invariant (Down (StoreDown c.args.p c.args.by)) c.requires.step _ _ _ c.store.ensures.seat.0 c.store.ensures.event.1 tt tt tt refl

pub returns-clause-step : goal.returns-clause-step
returns-clause-step c = (c.store.ensures.event.0, took _ _ _ c.self.view_is _ _ _ c.node.view_is c.requires.run _ _ _ c.node.invariant (Down (StoreDown c.args.p c.args.by)) c.requires.step _ _ c.store.ensures.event.1)

pub returns-clause-stored : goal.returns-clause-stored
returns-clause-stored c = down_by c.args.node.now _ c.args.p c.args.by (c.store.ensures.event.0, took _ _ _ c.self.view_is _ _ _ c.node.view_is c.requires.run _ _ _ c.node.invariant (Down (StoreDown c.args.p c.args.by)) c.requires.step _ _ c.store.ensures.event.1)
