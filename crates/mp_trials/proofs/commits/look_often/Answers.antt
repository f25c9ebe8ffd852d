use Rattle.std.proofs.Common.{refl, ap, ◌∙◌, inl}
use Rattle.mp_core_trx.specs.declared.event.TrxEvent.TheVariants.{StorePrep}
use Rattle.mp_shared.specs.Nodes.{NodeView}
use Rattle.mp_core_trx.specs.Events.{with_slot_load}
use Rattle.mp_trx_fusion.proofs.Callers.{may_look_here, may_take_looked, may_begin_here, log_here}
use Rattle.mp_trials.proofs.commits.look_often.Goals as goal

pub loop-preserved : goal.loop-preserved
loop-preserved c =
    let n = c.loop.node in
    let later = c.status.new.node in
    let p = c.args.p in
    let id = c.args.id in
    let word = c.status.ensures.shown.0 in
    let is = c.status.ensures.shown.2 in (
      ap (λ (v : NodeView). v.run) is ∙ c.loop.invariant.0,
      ap (λ (v : NodeView). v.frames) is ∙ c.loop.invariant.1,
      c.status.ensures.reached,
      may_look_here n later p (with_slot_load id.node id.slot word) _ is id (λ q. refl) c.loop.invariant.3,
      may_take_looked n later p id word is (StorePrep p id) refl c.loop.invariant.4,
      λ other may. may_begin_here n later p (with_slot_load id.node id.slot word) _ is other (λ q. refl) (λ q x has. inl has) (c.loop.invariant.5 other may),
      λ llsn version log. log_here n later p (with_slot_load id.node id.slot word) _ is llsn version (λ q. refl) (c.loop.invariant.6 llsn version log),
    )
