use Rattle.std.proofs.Common.{sym, subst}
use Rattle.mp_shared.specs.Nodes.{NodeView}
use Rattle.mp_supports.specs.Supports.{wrote_trace}
use Rattle.mp_primary.specs.AtWork.{MayStopWith}
use Rattle.mp_primary.specs.WriteTurns.{mtr_of_put}
use Rattle.mp_primary.proofs.WrittenTurns.{first_keeps, own_session, may_stop, write_next, write_may, write_spare, write_room, write_turn}
use Rattle.mp_primary.proofs.primary.Primary.answer_write.Goals as goal

pub first_of-first-requires : goal.first_of-first-requires
first_of-first-requires g c =
    let h = c.requires.put in
    (h.3.tries.session, own_session g.D.Disk c.args.shared.now h.0 c.args.self.now h.1 c.args.node.now c.args.number h.2 c.args.verb c.args.key c.args.former h.3)

pub stop_now-requires : goal.stop_now-requires
stop_now-requires g c =
    let h = c.requires.put in
    let put = h.3 in
    record { work = (c.args.shared.now, h.0, h.1, c.clear_desk.new.node, wrote_trace put.pages (mtr_of_put h.2 put.placed), put.tries.session, put.tries.line, put.tries.comes, c.in-Err.ensures.down h.0 h.1 (wrote_trace put.pages (mtr_of_put h.2 put.placed)) put.work) }

pub returns-in-Err : goal.returns-in-Err
returns-in-Err g c = λ old before trx put.
    let trace = wrote_trace put.pages (mtr_of_put trx put.placed) in
    c.stop_now.ensures c.args.shared.now old before c.clear_desk.new.node trace put.tries.session put.tries.line put.tries.comes (c.in-Err.ensures.down old before trace put.work)
    (subst (λ (n : NodeView). MayStopWith old put.tries.line c.first_of-first.result before n trace) (sym c.in-Err.ensures.still)
    (may_stop g.D.Disk c.args.shared.now old c.args.self.now before c.args.node.now c.args.number trx c.args.verb c.args.key c.args.former put c.first_of-first.result))

pub answer-requires-clause-next : goal.answer-requires-clause-next
answer-requires-clause-next g c =
    let h = c.requires.put in
    let keeps = first_keeps h.3.tries.session.formers.items c.args.key c.args.former c.first_of-first.result h.3.former_key (c.first_of-first.ensures h.3.tries.session (own_session g.D.Disk c.args.shared.now h.0 c.args.self.now h.1 c.args.node.now c.args.number h.2 c.args.verb c.args.key c.args.former h.3)) in (
      h.3.tries.session,
      h.3.tries.line,
      write_next g.D.Disk c.args.shared.now h.0 c.args.self.now h.1 c.args.node.now c.args.number h.2 c.args.verb c.args.key c.args.former h.3 c.clear_desk.new.node c.in_default.ensures.gone _ c.clear_desk.new.self c.self.view_is (c.in_default.ensures.cleared h.0 h.1 (wrote_trace h.3.pages (mtr_of_put h.2 h.3.placed)) h.3.work) c.first_of-first.result keeps.0 keeps.1,
      write_may g.D.Disk c.args.shared.now h.0 c.args.self.now h.1 c.args.node.now c.args.number h.2 c.args.verb c.args.key c.args.former h.3 c.clear_desk.new.node c.in_default.ensures.gone _ c.clear_desk.new.self c.self.view_is (c.in_default.ensures.cleared h.0 h.1 (wrote_trace h.3.pages (mtr_of_put h.2 h.3.placed)) h.3.work) c.first_of-first.result keeps.0 keeps.1,
      write_spare g.D.Disk c.args.shared.now h.0 c.args.self.now h.1 c.args.node.now c.args.number h.2 c.args.verb c.args.key c.args.former h.3 c.clear_desk.new.node c.in_default.ensures.gone _ c.clear_desk.new.self c.self.view_is (c.in_default.ensures.cleared h.0 h.1 (wrote_trace h.3.pages (mtr_of_put h.2 h.3.placed)) h.3.work) c.first_of-first.result keeps.0 keeps.1,
    )

pub answer-requires-clause-room : goal.answer-requires-clause-room
answer-requires-clause-room g c =
    let h = c.requires.put in
    let keeps = first_keeps h.3.tries.session.formers.items c.args.key c.args.former c.first_of-first.result h.3.former_key (c.first_of-first.ensures h.3.tries.session (own_session g.D.Disk c.args.shared.now h.0 c.args.self.now h.1 c.args.node.now c.args.number h.2 c.args.verb c.args.key c.args.former h.3)) in
    write_room g.D.Disk c.args.shared.now h.0 c.args.self.now h.1 c.args.node.now c.args.number h.2 c.args.verb c.args.key c.args.former h.3 c.clear_desk.new.node c.in_default.ensures.gone _ c.clear_desk.new.self c.self.view_is (c.in_default.ensures.cleared h.0 h.1 (wrote_trace h.3.pages (mtr_of_put h.2 h.3.placed)) h.3.work) c.first_of-first.result keeps.0 keeps.1

pub returns : goal.returns
returns g c = λ old before trx put.
    let keeps = first_keeps put.tries.session.formers.items c.args.key c.args.former c.first_of-first.result put.former_key (c.first_of-first.ensures put.tries.session (own_session g.D.Disk c.args.shared.now old c.args.self.now before c.args.node.now c.args.number trx c.args.verb c.args.key c.args.former put)) in
    write_turn g.D.Disk c.args.shared.now old c.args.self.now before c.args.node.now c.args.number trx c.args.verb c.args.key c.args.former put c.clear_desk.new.node c.in_default.ensures.gone _ c.clear_desk.new.self c.self.view_is (c.in_default.ensures.cleared old before (wrote_trace put.pages (mtr_of_put trx put.placed)) put.work) c.first_of-first.result keeps.0 keeps.1 c.answer.new.self c.answer.ensures.answered c.answer.ensures.book
