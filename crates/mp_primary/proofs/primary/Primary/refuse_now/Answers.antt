use Rattle.std.proofs.Common.{sym, subst}
use Rattle.mp_shared.specs.Nodes.{NodeView}
use Rattle.mp_supports.specs.Supports.{no_trace}
use Rattle.mp_desk.specs.Desks.{Moves}
use Rattle.mp_desk.specs.Statements.{StaysQuiet}
use Rattle.mp_primary.proofs.Refusing.{inside_next, inside_target, inside_up, inside_comes, inside_turn}
use Rattle.mp_primary.proofs.Stops.{quiet_stop}
use Rattle.mp_primary.proofs.primary.Primary.refuse_now.Goals as goal

pub stop_now-requires : goal.stop_now-requires
stop_now-requires g c =
    let h = c.requires.held in
    let held = h.4.0 in
    record { work = (c.args.shared.now, h.0, h.1, c.clear_desk.new.node, no_trace, held.tries.session, held.tries.line, held.tries.comes, c.in-Err.ensures.down h.0 h.1 no_trace held.work) }

pub returns-in-Err : goal.returns-in-Err
returns-in-Err g c = λ old before verb key held right.
    c.stop_now.ensures c.args.shared.now old before c.clear_desk.new.node no_trace held.tries.session held.tries.line held.tries.comes (c.in-Err.ensures.down old before no_trace held.work)
    (quiet_stop old held.tries.line before c.clear_desk.new.node (subst (λ (n : NodeView). Moves StaysQuiet old.number before n) (sym c.in-Err.ensures.still) held.quiet))

pub refuse-requires : goal.refuse-requires
refuse-requires g c =
    let h = c.requires.held in
    let held = h.4.0 in
    let cleared = c.in_default.ensures.cleared h.0 h.1 no_trace held.work in
    record {
      next = (
        held.tries.session,
        held.tries.line,
        inside_next g.D.Disk c.args.shared.now h.0 c.args.self.now h.1 c.args.node.now c.clear_desk.new.node c.args.number c.args.trx h.2 h.3 held c.args.refusal h.4.1 c.in_default.ensures.gone _ c.clear_desk.new.self c.self.view_is cleared,
        held.tries.stage,
        inside_target g.D.Disk c.args.shared.now h.0 c.args.self.now h.1 c.args.node.now c.clear_desk.new.node c.args.number c.args.trx h.2 h.3 held c.args.refusal h.4.1 c.in_default.ensures.gone _ c.clear_desk.new.self c.self.view_is cleared,
      );
    }

pub take_back-requires-clause-comes : goal.take_back-requires-clause-comes
take_back-requires-clause-comes g c =
    let h = c.requires.held in
    let held = h.4.0 in
    let cleared = c.in_default.ensures.cleared h.0 h.1 no_trace held.work in (
      _,
      held.tries.line,
      inside_comes g.D.Disk c.args.shared.now h.0 c.args.self.now h.1 c.args.node.now c.clear_desk.new.node c.args.number c.args.trx h.2 h.3 held c.args.refusal h.4.1 c.in_default.ensures.gone _ c.clear_desk.new.self c.self.view_is cleared c.refuse.new.self c.refuse.ensures.set c.refuse.ensures.book,
      (tt, λ trx e. absurd cc),
    )

pub take_back-requires-clause-up : goal.take_back-requires-clause-up
take_back-requires-clause-up g c =
    let h = c.requires.held in
    let held = h.4.0 in
    let cleared = c.in_default.ensures.cleared h.0 h.1 no_trace held.work in
    inside_up g.D.Disk c.args.shared.now h.0 c.args.self.now h.1 c.args.node.now c.clear_desk.new.node c.args.number c.args.trx h.2 h.3 held c.args.refusal h.4.1 c.in_default.ensures.gone _ c.clear_desk.new.self c.self.view_is cleared

pub returns : goal.returns
returns g c = λ old before verb key held right.
    let cleared = c.in_default.ensures.cleared old before no_trace held.work in
    inside_turn g.D.Disk c.args.shared.now old c.args.self.now before c.args.node.now c.clear_desk.new.node c.args.number c.args.trx verb key held c.args.refusal right c.in_default.ensures.gone _ c.clear_desk.new.self c.self.view_is cleared c.refuse.new.self c.refuse.ensures.set c.refuse.ensures.book
    _ c.take_back.new.node c.take_back.result c.take_back.ensures
