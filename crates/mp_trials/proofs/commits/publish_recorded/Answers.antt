use Rattle.std.proofs.Common.{[], ◌∷◌, ◌++◌, Some, refl, ap, ◌∙◌, inl, arith}
use Rattle.mp_cells.specs.declared.records.Record.TheVariants.{Commit}
use Rattle.mp_core_trx.specs.Events.{with_end}
use Rattle.mp_shared.specs.Nodes.{NodeView}
use Rattle.mp_shared.proofs.Holding.{holds_the_part}
use Rattle.mp_trx_fusion.proofs.Callers.{part_here, may_begin_here, log_here}
use Rattle.mp_trx_fusion.proofs.CommitRecords.{may_record, may_force, may_publish, log_recorded, may_begin_recorded}
use Rattle.mp_trials.proofs.commits.publish_recorded.Goals as goal

pub store_llsn-requires-clause-step : goal.store_llsn-requires-clause-step
store_llsn-requires-clause-step c = may_record _ c.requires.reached c.args.p c.args.id c.args.cts c.requires.may _ _ c.requires.log _ c.requires.mtr.0 (c.put.ensures ∙ ap (λ l. l ++ Commit c.args.id c.args.cts ∷ []) c.clear.ensures) refl (omega (arith, c.requires.mtr.1)) (omega arith)

pub store_durable-requires-clause-run : goal.store_durable-requires-clause-run
store_durable-requires-clause-run c = ap (λ (v : NodeView). v.run) c.store_llsn.ensures.1.becomes ∙ c.requires.run

pub store_durable-requires-clause-step : goal.store_durable-requires-clause-step
store_durable-requires-clause-step c = may_force _ c.requires.reached c.args.p c.args.id c.args.cts c.requires.may _ _ c.requires.log _ c.requires.mtr.0 (c.put.ensures ∙ ap (λ l. l ++ Commit c.args.id c.args.cts ∷ []) c.clear.ensures) refl (omega (arith, c.requires.mtr.1)) (omega arith) _ c.store_llsn.ensures _ refl

pub publish-requires-clause-run : goal.publish-requires-clause-run
publish-requires-clause-run c = ap (λ (v : NodeView). v.run) c.store_durable.ensures.1.becomes ∙ ap (λ (v : NodeView). v.run) c.store_llsn.ensures.1.becomes ∙ c.requires.run

pub publish-requires-clause-may : goal.publish-requires-clause-may
publish-requires-clause-may c = may_publish _ c.requires.reached c.args.p c.args.id c.args.cts c.requires.may _ _ c.requires.log _ c.requires.mtr.0 (c.put.ensures ∙ ap (λ l. l ++ Commit c.args.id c.args.cts ∷ []) c.clear.ensures) refl (omega (arith, c.requires.mtr.1)) (omega arith) _ c.store_llsn.ensures _ refl _ c.store_durable.ensures

pub returns-clause-node : goal.returns-clause-node
returns-clause-node c = (
  ap (λ (v : NodeView). v.run) c.publish.ensures.becomes ∙ ap (λ (v : NodeView). v.run) c.store_durable.ensures.1.becomes ∙ ap (λ (v : NodeView). v.run) c.store_llsn.ensures.1.becomes,
  ap (λ (v : NodeView). v.frames) c.publish.ensures.becomes ∙ ap (λ (v : NodeView). v.frames) c.store_durable.ensures.1.becomes ∙ ap (λ (v : NodeView). v.frames) c.store_llsn.ensures.1.becomes,
)

pub returns-clause-part : goal.returns-clause-part
returns-clause-part c =
    let may = may_publish _ c.requires.reached c.args.p c.args.id c.args.cts c.requires.may _ _ c.requires.log _ c.requires.mtr.0 (c.put.ensures ∙ ap (λ l. l ++ Commit c.args.id c.args.cts ∷ []) c.clear.ensures) refl (omega (arith, c.requires.mtr.1)) (omega arith) _ c.store_llsn.ensures _ refl _ c.store_durable.ensures in
    holds_the_part c.publish.new.node c.args.p _ (part_here _ _ c.args.p (with_end c.args.id (Some c.args.cts)) _ c.publish.ensures.becomes may.0 may.1) may.2.0.0

pub returns-clause-log : goal.returns-clause-log
returns-clause-log c = log_here _ _ c.args.p (with_end c.args.id (Some c.args.cts)) _ c.publish.ensures.becomes _ _ (λ q. refl) (log_recorded _ c.requires.reached c.args.p c.args.id c.args.cts c.requires.may _ _ c.requires.log _ c.requires.mtr.0 (c.put.ensures ∙ ap (λ l. l ++ Commit c.args.id c.args.cts ∷ []) c.clear.ensures) refl (omega (arith, c.requires.mtr.1)) (omega arith) _ c.store_llsn.ensures _ refl _ c.store_durable.ensures)

pub returns-clause-others : goal.returns-clause-others
returns-clause-others c other may = may_begin_here _ _ c.args.p (with_end c.args.id (Some c.args.cts)) _ c.publish.ensures.becomes other (λ q. refl) (λ q x has. inl has) (may_begin_recorded _ c.requires.reached c.args.p c.args.id c.args.cts c.requires.may _ _ c.requires.log _ c.requires.mtr.0 (c.put.ensures ∙ ap (λ l. l ++ Commit c.args.id c.args.cts ∷ []) c.clear.ensures) refl (omega (arith, c.requires.mtr.1)) (omega arith) _ c.store_llsn.ensures _ refl _ c.store_durable.ensures other may)
