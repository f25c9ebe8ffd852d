use Rattle.std.proofs.Common.{map, sym, subst, ap, ◌∙◌}
use Rattle.mp_machine.specs.Rule.{Backed}
use Rattle.mp_core.specs.World.{core}
use Rattle.mp_shared.specs.KeptNodes.{IsKeptNode}
use Rattle.mp_shared.proofs.Steps.{one_opening}
use Rattle.mp_shared.proofs.Cuts.{kept_joined, no_frames}
use Rattle.mp_shared.proofs.shared.Shared.join.Goals as goal

pub join-requires-clause-empty : goal.join-requires-clause-empty
join-requires-clause-empty c = no_frames c.other.inside.seat.me.1 (ap (λ x. x.frames) c.other.view_is ∙ c.requires.frames.1)

pub invariant_of-node : goal.invariant_of-node
invariant_of-node c =
    let parts = ap (λ me. me.0) c.join.ensures.seat.2 in
    let r = c.node.inside.run.value in
    let backed = subst (λ k. Backed (core k) c.join.new.seat.me.0) (sym (one_opening _ _ _ c.self.view_is _ _ _ c.node.view_is c.requires.run.0)) c.join.ensures.backed in
    let none = ap (λ x. x.frames) c.node.view_is ∙ c.requires.frames.0 in
    let none_there = ap (λ x. x.frames) c.other.view_is ∙ c.requires.frames.1 in
    let frames = map (λ x. x.0) c.join.new.seat.me.1 in
    subst (λ v. IsKeptNode r c.join.new.seat.table_id v frames c.join-2.new.self.used c.join-3.new.self.tables) (sym parts)
    (kept_joined r c.node.inside.seat.table_id c.node.inside.seat.me.0 _ _ _ c.node.invariant c.join.new.seat.table_id c.join.ensures.seat.0 none
    c.other.inside.run.value c.other.inside.seat.table_id c.other.inside.seat.me.0 _ _ _ c.other.invariant none_there
    frames c.join-2.new.self.used (subst (λ v. Backed (core r.opening) v) parts backed) c.join-2.ensures c.join-3.new.self.tables c.join-3.ensures)

pub returns-clause-reached : goal.returns-clause-reached
returns-clause-reached c = let kept = invariant_of-node c in record { fair = kept.fair; backed = kept.backed }
