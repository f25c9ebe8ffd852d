use Rattle.std.proofs.Common.{◌==◌, not, map, sym, subst, ap, ◌∙◌}
use Rattle.mp_shared.specs.KeptNodes.{IsKeptNode}
use Rattle.mp_shared.proofs.Cuts.{cut_one, cut_others, kept_only}
use Rattle.mp_shared.proofs.shared.Shared.split.Goals as goal

pub invariant_of-result : goal.invariant_of-result
invariant_of-result c =
    let run = ap (λ x. x.run) c.node.view_is ∙ c.requires.run ∙ sym c.of.ensures in
    let none = ap (λ x. x.frames) c.node.view_is ∙ c.requires.frames in
    let seat = c.part_off-seat.result in
    let locks = c.part_off.result in
    let frames = map (λ x. x.0) seat.me.1 in
    subst (λ r. IsKeptNode r seat.table_id seat.me.0 frames c.set.new.self.used locks.tables) run
    (subst (λ v. IsKeptNode c.node.inside.run.value seat.table_id v frames c.set.new.self.used locks.tables) (sym (ap (λ me. me.0) c.part_off-seat.ensures.given.1))
    (kept_only c.node.inside.run.value c.node.inside.seat.table_id c.node.inside.seat.me.0 _ _ _ c.node.invariant seat.table_id c.part_off-seat.ensures.given.0 none frames (λ n. n == c.args.p)
    c.set.new.self.used (cut_one _ c.args.p c.set.new.self.used (c.set.ensures.here ∙ c.get.ensures) (λ n other. c.set.ensures.others n other ∙ c.none-counts.ensures n))
    locks.tables (cut_one _ c.args.p locks.tables c.part_off.ensures.given c.part_off.ensures.given_alone)))

pub invariant_of-node : goal.invariant_of-node
invariant_of-node c =
    let none = ap (λ x. x.frames) c.node.view_is ∙ c.requires.frames in
    let seat = c.part_off-seat.new.seat in
    let locks = c.part_off.new.self in
    let frames = map (λ x. x.0) seat.me.1 in
    subst (λ v. IsKeptNode c.node.inside.run.value seat.table_id v frames c.set-2.new.self.used locks.tables) (sym (ap (λ me. me.0) c.part_off-seat.ensures.kept.1))
    (kept_only c.node.inside.run.value c.node.inside.seat.table_id c.node.inside.seat.me.0 _ _ _ c.node.invariant seat.table_id c.part_off-seat.ensures.kept.0 none frames (λ n. not (n == c.args.p))
    c.set-2.new.self.used (cut_others _ c.args.p c.set-2.new.self.used c.set-2.ensures.here c.set-2.ensures.others)
    locks.tables (cut_others _ c.args.p locks.tables c.part_off.ensures.kept c.part_off.ensures.others))

pub returns-clause-reached : goal.returns-clause-reached
returns-clause-reached c =
    let one = invariant_of-result c in
    let others = invariant_of-node c in
    (record { fair = one.fair; backed = one.backed }, record { fair = others.fair; backed = others.backed })
