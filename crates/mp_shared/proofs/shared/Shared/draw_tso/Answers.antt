use Rattle.std.proofs.Common.{refl, arith}
use Rattle.mp_core_trx.specs.declared.event.TrxEvent.TheVariants.{DrawTso}
use Rattle.mp_core.specs.declared.event.CoreEvent.TheVariants.{Trx}
use Rattle.mp_shared.proofs.Steps.{fair, can, kept_same, took}
use Rattle.mp_shared.proofs.Fits.{draw_word, drawn_fits}
use Rattle.mp_shared.proofs.shared.Shared.draw_tso.Goals as goal

pub fetch_add-before-requires-clause-event : goal.fetch_add-before-requires-clause-event
fetch_add-before-requires-clause-event c = can _ _ _ c.self.view_is _ _ _ c.node.view_is c.requires.run _ _ _ c.node.invariant (Trx (DrawTso c.args.p c.args.id)) c.requires.step tt _ _ refl (draw_word _ (fair _ _ _ c.self.view_is _ _ _ c.node.view_is c.requires.run _ _ _ c.node.invariant (Trx (DrawTso c.args.p c.args.id)) c.requires.step) c.args.p c.args.id)

pub overflow_add-result : goal.overflow_add-result
overflow_add-result c = let small = drawn_fits c.self.inside.table.table.shared.key (fair _ _ _ c.self.view_is _ _ _ c.node.view_is c.requires.run _ _ _ c.node.invariant (Trx (DrawTso c.args.p c.args.id)) c.requires.step) _ _ _ _ _ c.fetch_add-before.ensures.event in omega (arith, small)

pub invariant_of-node : goal.invariant_of-node
invariant_of-node c = kept_same _ _ _ c.self.view_is _ _ _ c.node.view_is c.requires.run _ _ _ c.node.invariant (Trx (DrawTso c.args.p c.args.id)) c.requires.step _ _ _ c.fetch_add-before.ensures.seat.0 c.fetch_add-before.ensures.event tt tt tt refl

pub returns : goal.returns
returns c = (_, refl, took _ _ _ c.self.view_is _ _ _ c.node.view_is c.requires.run _ _ _ c.node.invariant (Trx (DrawTso c.args.p c.args.id)) c.requires.step _ _ c.fetch_add-before.ensures.event)
