use Rattle.std.proofs.Common.{refl}
use Rattle.mp_core_pages.specs.declared.event.PagesEvent.TheVariants.{StoreLlsn}
use Rattle.mp_core.specs.declared.event.CoreEvent.TheVariants.{Pages}
use Rattle.mp_shared.proofs.Steps.{one_table, place, within, can, kept_same, took}
use Rattle.mp_shared.proofs.shared.Shared.store_llsn.Goals as goal

pub llsn_word-requires : goal.llsn_word-requires
llsn_word-requires c = place _ _ _ c.self.view_is _ _ _ c.node.view_is c.requires.run _ _ _ c.node.invariant (Pages (StoreLlsn c.args.p c.args.mtr.now)) c.requires.step

pub store-requires-clause-table : goal.store-requires-clause-table
store-requires-clause-table c =
    (one_table _ _ _ c.self.view_is _ _ _ c.node.view_is c.requires.run _ _ _ c.node.invariant, refl, within _ _ _ c.self.view_is _ _ _ c.node.view_is c.requires.run _ _ _ c.node.invariant (Pages (StoreLlsn c.args.p c.args.mtr.now)) c.requires.step _ _ c.self.invariant.0 c.llsn_word.ensures)

pub store-requires-clause-event : goal.store-requires-clause-event
store-requires-clause-event c = can _ _ _ c.self.view_is _ _ _ c.node.view_is c.requires.run _ _ _ c.node.invariant (Pages (StoreLlsn c.args.p c.args.mtr.now)) c.requires.step tt _ _ c.llsn_word.ensures (λ es all. refl)

pub invariant_of-node : goal.invariant_of-node
invariant_of-node c = kept_same _ _ _ c.self.view_is _ _ _ c.node.view_is c.requires.run _ _ _ c.node.invariant (Pages (StoreLlsn c.args.p c.args.mtr.now)) c.requires.step _ _ _ c.store.ensures.seat.0 c.store.ensures.event.1 tt tt tt refl

pub returns : goal.returns
returns c = (c.store.ensures.event.0, took _ _ _ c.self.view_is _ _ _ c.node.view_is c.requires.run _ _ _ c.node.invariant (Pages (StoreLlsn c.args.p c.args.mtr.now)) c.requires.step _ _ c.store.ensures.event.1)
