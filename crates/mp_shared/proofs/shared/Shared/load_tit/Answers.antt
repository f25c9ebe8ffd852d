use Rattle.std.proofs.Common.{refl}
use Rattle.mp_core_trx.specs.declared.event.TrxEvent.TheVariants.{LoadTit}
use Rattle.mp_core.specs.declared.event.CoreEvent.TheVariants.{Trx}
use Rattle.mp_shared.proofs.Steps.{one_table, place, within, can, kept_same, took}
use Rattle.mp_shared.proofs.shared.Shared.load_tit.Goals as goal

pub slot_word-requires : goal.slot_word-requires
slot_word-requires c = place _ _ _ c.self.view_is _ _ _ c.node.view_is c.requires.run _ _ _ c.node.invariant (Trx (LoadTit c.args.p c.args.of c.args.slot)) c.requires.step

pub load-requires-clause-table : goal.load-requires-clause-table
load-requires-clause-table c =
    (one_table _ _ _ c.self.view_is _ _ _ c.node.view_is c.requires.run _ _ _ c.node.invariant, refl, within _ _ _ c.self.view_is _ _ _ c.node.view_is c.requires.run _ _ _ c.node.invariant (Trx (LoadTit c.args.p c.args.of c.args.slot)) c.requires.step _ _ c.self.invariant.0 c.slot_word.ensures)

pub load-requires-clause-event : goal.load-requires-clause-event
load-requires-clause-event c = can _ _ _ c.self.view_is _ _ _ c.node.view_is c.requires.run _ _ _ c.node.invariant (Trx (LoadTit c.args.p c.args.of c.args.slot)) c.requires.step tt _ _ c.slot_word.ensures (λ es all. refl)

pub invariant_of-node : goal.invariant_of-node
invariant_of-node c = kept_same _ _ _ c.self.view_is _ _ _ c.node.view_is c.requires.run _ _ _ c.node.invariant (Trx (LoadTit c.args.p c.args.of c.args.slot)) c.requires.step _ _ _ c.load.ensures.seat.0 c.load.ensures.event tt tt tt refl

pub returns : goal.returns
returns c = took _ _ _ c.self.view_is _ _ _ c.node.view_is c.requires.run _ _ _ c.node.invariant (Trx (LoadTit c.args.p c.args.of c.args.slot)) c.requires.step _ _ c.load.ensures.event
