use Rattle.std.proofs.Common.{sym, subst}
use Rattle.mp_shared.specs.Nodes.{NodeView}
use Rattle.mp_supports.specs.Supports.{no_trace, looked_trace}
use Rattle.mp_desk.specs.Desks.{Moves}
use Rattle.mp_desk.specs.Statements.{StaysQuiet}
use Rattle.mp_primary.proofs.LookedAtWork.{quiet_work}
use Rattle.mp_primary.proofs.ReadsEnd.{read_next, read_room, read_inside}
use Rattle.mp_primary.proofs.Stops.{quiet_stop}
use Rattle.mp_primary.proofs.WaitsEnd.{gone_of}
use Rattle.mp_primary.proofs.primary.Primary.answer_read.Goals as goal

pub stop_now-requires : goal.stop_now-requires
stop_now-requires g c =
    let w = c.requires.work in
    record {
      work = (
        c.args.shared.now,
        w.0,
        w.1,
        c.clear_desk.new.node,
        looked_trace w.4,
        w.2,
        w.3,
        w.5,
        c.in-Err.ensures.down w.0 w.1
            (looked_trace w.4) w.6,
      );
    }

pub returns-in-Err : goal.returns-in-Err
returns-in-Err g c = λ old before s line pages comes at finds.
    c.stop_now.ensures c.args.shared.now old before c.clear_desk.new.node no_trace s line comes
    (c.in-Err.ensures.down old before no_trace
    (quiet_work g.D.Disk c.args.shared.now old c.args.self.now before c.args.node.now (looked_trace pages) at finds.quiet))
    (quiet_stop old line before c.clear_desk.new.node
    (subst (λ (x : NodeView). Moves StaysQuiet old.number before x) (sym c.in-Err.ensures.still) finds.quiet))

pub answer-requires-clause-next : goal.answer-requires-clause-next
answer-requires-clause-next g c =
    let w = c.requires.work in
    read_next g.D.Disk c.args.shared.now w.0 c.clear_desk.new.self _ c.self.view_is w.1 c.args.node.now c.clear_desk.new.node
    c.args.number w.2 w.3 w.5 c.args.reply w.4 w.7 (c.in_default.ensures.cleared w.0 w.1 (looked_trace w.4) w.6)

pub answer-requires-clause-room : goal.answer-requires-clause-room
answer-requires-clause-room g c =
    let w = c.requires.work in
    read_room g.D.Disk c.args.shared.now w.0 c.clear_desk.new.self _ c.self.view_is w.1 c.args.node.now c.clear_desk.new.node
    c.args.number w.2 w.3 w.5 c.args.reply w.4 w.7 (c.in_default.ensures.cleared w.0 w.1 (looked_trace w.4) w.6)

pub returns : goal.returns
returns g c = λ old before s line pages comes at finds.
    read_inside g.D.Disk c.args.shared.now old c.clear_desk.new.self _ c.self.view_is before c.args.node.now c.clear_desk.new.node
    c.args.number s line comes c.args.reply pages finds (c.in_default.ensures.cleared old before (looked_trace pages) at) at.desk.part
    (gone_of g.D.Disk c.args.shared.now old c.args.self.now before c.args.node.now c.clear_desk.new.node at c.in_default.ensures.gone)
    c.answer.new.self c.answer.ensures.answered c.answer.ensures.book
