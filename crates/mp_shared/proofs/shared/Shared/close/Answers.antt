use Rattle.std.proofs.Common.{sym, subst, ap, ◌∙◌}
use Rattle.std.specs.Mem.Slots.{slots_items, slots_counts}
use Rattle.mp_machine.specs.Rule.{Ends}
use Rattle.mp_core.specs.World.{core}
use Rattle.mp_core.specs.Invariant.{NumbersFit}
use Rattle.mp_shared.specs.Nodes.{NodeView}
use Rattle.mp_shared.specs.KeptNodes.{CarriesAllOut}
use Rattle.mp_shared.proofs.Closing.{closes}
use Rattle.mp_shared.proofs.shared.Shared.close.Goals as goal

pub returns : goal.returns
returns c =
    let v = c.args.node in
    let words = slots_items c.close.result.words in
    let frames = slots_items c.close.result.slots in
    let opening = ap (λ r. r.opening) (c.self.view_is ∙ sym c.requires.run) in
    let out = subst (λ (x : NodeView). CarriesAllOut x.parts x.frames) c.node.view_is c.node.invariant.carried_out in
    let ends = subst (λ o. Ends (core o) words frames c.node.inside.seat.me.0) opening c.close.ensures.last in
    closes v c.requires.parts
    (subst (CarriesAllOut v.parts) c.requires.frames out)
    (subst (λ (x : NodeView). NumbersFit x.run.opening) c.node.view_is c.node.invariant.fair)
    words frames
    (sym (slots_counts c.close.result.slots).0 ∙ c.close.ensures.counts.1 ∙ c.self.invariant.1)
    (subst (λ (x : NodeView). Ends (core v.run.opening) words frames x.parts) c.node.view_is ends)
