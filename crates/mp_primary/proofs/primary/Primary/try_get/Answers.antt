use Rattle.std.proofs.Common.{refl}
use Rattle.mp_desk.proofs.Moving.{goes_none}
use Rattle.mp_desk.proofs.ReadValue.{halts_scan}
use Rattle.mp_primary.proofs.LookedAtWork.{tries_inside, turn_outside, got_pages, got_work, got_reply, work_nothing, stops_reading}
use Rattle.mp_primary.proofs.OpenReaders.{reads_in}
use Rattle.mp_primary.proofs.primary.Primary.try_get.Goals as goal

pub get-requires-clause-reader : goal.get-requires-clause-reader
get-requires-clause-reader g c =
    let t = tries_inside g.D.Disk c.args.shared.now _ c.args.self.now c.self.view_is c.args.node.now c.args.number c.args.trx _
    c.requires.tries in
    reads_in g.D.Disk c.args.shared.now _ c.args.node.now c.args.number t.session t.line t.comes t.up c.args.trx t.stage

pub answer_read-requires : goal.answer_read-requires
answer_read-requires g c =
    let t = tries_inside g.D.Disk c.args.shared.now _ c.args.self.now c.self.view_is c.args.node.now c.args.number c.args.trx _
    c.requires.tries in
    let desk = c.get.new.self in
    record {
      work = (
        _,
        c.args.node.now,
        t.session,
        t.line,
        got_pages g.D.Disk c.args.shared.now _ c.args.node.now c.get.new.node c.args.number c.args.trx _ t desk c.get.ensures.desk
            c.get.ensures.looks c.args.key refl c.in-Ok.value c.in-Ok.ensures.got,
        t.comes,
        got_work g.D.Disk c.args.shared.now _ c.args.node.now c.get.new.node c.args.number c.args.trx _ t desk c.get.ensures.desk
            c.get.ensures.looks c.args.key refl c.in-Ok.value c.in-Ok.ensures.got,
        got_reply g.D.Disk c.args.shared.now _ c.args.node.now c.get.new.node c.args.number c.args.trx _ t desk c.get.ensures.desk
            c.get.ensures.looks c.args.key refl c.in-Ok.value c.in-Ok.ensures.got,
      );
    }

pub halt_read-requires : goal.halt_read-requires
halt_read-requires g c =
    let t = tries_inside g.D.Disk c.args.shared.now _ c.args.self.now c.self.view_is c.args.node.now c.args.number c.args.trx _
    c.requires.tries in
    let cause = halts_scan c.self.inside.number c.args.trx c.args.key c.args.node.now c.args.node.now c.get.new.node c.in-Err.halt
    (goes_none c.self.inside.number c.args.node.now) c.in-Err.ensures.cause in
    record {
      work = (
        _,
        c.args.node.now,
        t.session,
        t.line,
        t.comes,
        work_nothing g.D.Disk c.args.shared.now _ c.args.node.now c.get.new.node c.args.number c.args.trx _ t c.get.new.self
            c.get.ensures.desk c.get.ensures.looks,
        stops_reading g.D.Disk c.args.shared.now _ c.args.node.now c.get.new.node c.args.number c.args.trx _ t c.get.new.self
            c.get.ensures.desk c.get.ensures.looks c.in-Err.halt cause,
      );
    }

pub returns-in-Ok : goal.returns-in-Ok
returns-in-Ok g c =
    let t = tries_inside g.D.Disk c.args.shared.now _ c.args.self.now c.self.view_is c.args.node.now c.args.number c.args.trx _
    c.requires.tries in
    let desk = c.get.new.self in
    turn_outside g.D.Disk c.args.shared.now _ c.args.self.now c.self.view_is c.answer_read.new.self c.args.node.now c.answer_read.new.node
    c.args.number c.answer_read.result
    (c.answer_read.ensures _ c.args.node.now t.session t.line
    (got_pages g.D.Disk c.args.shared.now _ c.args.node.now c.get.new.node c.args.number c.args.trx _ t desk c.get.ensures.desk
    c.get.ensures.looks c.args.key refl c.in-Ok.value c.in-Ok.ensures.got)
    t.comes
    (got_work g.D.Disk c.args.shared.now _ c.args.node.now c.get.new.node c.args.number c.args.trx _ t desk c.get.ensures.desk
    c.get.ensures.looks c.args.key refl c.in-Ok.value c.in-Ok.ensures.got)
    (got_reply g.D.Disk c.args.shared.now _ c.args.node.now c.get.new.node c.args.number c.args.trx _ t desk c.get.ensures.desk
    c.get.ensures.looks c.args.key refl c.in-Ok.value c.in-Ok.ensures.got))

pub returns-in-Err : goal.returns-in-Err
returns-in-Err g c =
    let t = tries_inside g.D.Disk c.args.shared.now _ c.args.self.now c.self.view_is c.args.node.now c.args.number c.args.trx _
    c.requires.tries in
    let cause = halts_scan c.self.inside.number c.args.trx c.args.key c.args.node.now c.args.node.now c.get.new.node c.in-Err.halt
    (goes_none c.self.inside.number c.args.node.now) c.in-Err.ensures.cause in
    turn_outside g.D.Disk c.args.shared.now _ c.args.self.now c.self.view_is c.halt_read.new.self c.args.node.now c.halt_read.new.node
    c.args.number c.halt_read.result
    (c.halt_read.ensures _ c.args.node.now t.session t.line t.comes
    (work_nothing g.D.Disk c.args.shared.now _ c.args.node.now c.get.new.node c.args.number c.args.trx _ t c.get.new.self
    c.get.ensures.desk c.get.ensures.looks)
    (stops_reading g.D.Disk c.args.shared.now _ c.args.node.now c.get.new.node c.args.number c.args.trx _ t c.get.new.self
    c.get.ensures.desk c.get.ensures.looks c.in-Err.halt cause))
