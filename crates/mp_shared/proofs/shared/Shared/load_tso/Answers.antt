use Rattle.std.proofs.Common.{refl}
use Rattle.mp_core_trx.specs.declared.event.TrxEvent.TheVariants.{LoadTso}
use Rattle.mp_core.specs.declared.event.CoreEvent.TheVariants.{Trx}
use Rattle.mp_shared.proofs.Steps.{can, kept_same, took}
use Rattle.mp_shared.proofs.shared.Shared.load_tso.Goals as goal

pub load-requires-clause-event : goal.load-requires-clause-event
load-requires-clause-event c =
    can _ _ _ c.self.view_is _ _ _ c.node.view_is c.requires.run _ _ _ c.node.invariant (Trx (LoadTso c.args.p)) c.requires.step tt _ _ refl (λ es all. refl)

pub invariant_of-node : goal.invariant_of-node
invariant_of-node c =
    kept_same _ _ _ c.self.view_is _ _ _ c.node.view_is c.requires.run _ _ _ c.node.invariant (Trx (LoadTso c.args.p)) c.requires.step _ _ _ c.load.ensures.seat.0 c.load.ensures.event tt tt tt refl

pub returns : goal.returns
returns c = took _ _ _ c.self.view_is _ _ _ c.node.view_is c.requires.run _ _ _ c.node.invariant (Trx (LoadTso c.args.p)) c.requires.step _ _ c.load.ensures.event
