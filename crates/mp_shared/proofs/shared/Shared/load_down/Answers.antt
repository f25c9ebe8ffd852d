use Rattle.std.proofs.Common.{refl, arith}
use Rattle.mp_core.specs.declared.event.CoreEvent.TheVariants.{Down}
use Rattle.mp_core.specs.declared.event.DownEvent.TheVariants.{LoadDown}
use Rattle.mp_shared.proofs.Steps.{one_table, place, within, fair, can, kept_same, took}
use Rattle.mp_shared.proofs.DownTold.{loaded_most, down_loaded_by}
use Rattle.mp_shared.proofs.shared.Shared.load_down.Goals as goal

pub down_word_at-requires : goal.down_word_at-requires
down_word_at-requires c = place _ _ _ c.self.view_is _ _ _ c.node.view_is c.requires.run _ _ _ c.node.invariant (Down (LoadDown c.args.p c.args.of)) c.requires.step

pub load-word-requires-clause-table : goal.load-word-requires-clause-table
load-word-requires-clause-table c =
    (one_table _ _ _ c.self.view_is _ _ _ c.node.view_is c.requires.run _ _ _ c.node.invariant, refl, within _ _ _ c.self.view_is _ _ _ c.node.view_is c.requires.run _ _ _ c.node.invariant (Down (LoadDown c.args.p c.args.of)) c.requires.step _ _ c.self.invariant.0 c.down_word_at.ensures)

pub load-word-requires-clause-event : goal.load-word-requires-clause-event
load-word-requires-clause-event c = can _ _ _ c.self.view_is _ _ _ c.node.view_is c.requires.run _ _ _ c.node.invariant (Down (LoadDown c.args.p c.args.of)) c.requires.step tt _ _ c.down_word_at.ensures (λ es all. refl)

pub invariant_of-node : goal.invariant_of-node
invariant_of-node c = kept_same _ _ _ c.self.view_is _ _ _ c.node.view_is c.requires.run _ _ _ c.node.invariant (Down (LoadDown c.args.p c.args.of)) c.requires.step _ _ _ c.load-word.ensures.seat.0 c.load-word.ensures.event tt tt tt refl

-- whoever is down is so with the number of a primary
pub overflow_cast-result : goal.overflow_cast-result
overflow_cast-result c =
    let small = loaded_most c.self.inside.table.table.shared.key (fair _ _ _ c.self.view_is _ _ _ c.node.view_is c.requires.run _ _ _ c.node.invariant (Down (LoadDown c.args.p c.args.of)) c.requires.step) c.args.p c.args.of _ _ _ c.load-word.ensures.event in
    omega (arith, small)

pub returns-clause-step : goal.returns-clause-step
returns-clause-step c = took _ _ _ c.self.view_is _ _ _ c.node.view_is c.requires.run _ _ _ c.node.invariant (Down (LoadDown c.args.p c.args.of)) c.requires.step _ _ c.load-word.ensures.event

pub returns-clause-loaded : goal.returns-clause-loaded
returns-clause-loaded c = down_loaded_by c.args.node.now _ c.args.p c.args.of c.load-word.result (took _ _ _ c.self.view_is _ _ _ c.node.view_is c.requires.run _ _ _ c.node.invariant (Down (LoadDown c.args.p c.args.of)) c.requires.step _ _ c.load-word.ensures.event)
