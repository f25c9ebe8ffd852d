use Rattle.std.proofs.Common.{refl}
use Rattle.mp_primary.proofs.LookedAtWork.{tries_inside, turn_outside, scanned_pages, scanned_work, scanned_reply, work_nothing, stops_reading}
use Rattle.mp_primary.proofs.OpenReaders.{reads_in}
use Rattle.mp_primary.proofs.primary.Primary.try_scan.Goals as goal

pub scan-requires-clause-reader : goal.scan-requires-clause-reader
scan-requires-clause-reader g c =
    let t = tries_inside g.D.Disk c.args.shared.now _ c.args.self.now c.self.view_is c.args.node.now c.args.number c.args.trx _
    c.requires.tries in
    reads_in g.D.Disk c.args.shared.now _ c.args.node.now c.args.number t.session t.line t.comes t.up c.args.trx t.stage

pub answer_read-requires : goal.answer_read-requires
answer_read-requires g c =
    let t = tries_inside g.D.Disk c.args.shared.now _ c.args.self.now c.self.view_is c.args.node.now c.args.number c.args.trx _
    c.requires.tries in
    let desk = c.scan.new.self in
    record {
      work = (
        _,
        c.args.node.now,
        t.session,
        t.line,
        scanned_pages g.D.Disk c.args.shared.now _ c.args.node.now c.scan.new.node c.args.number c.args.trx _ t desk c.scan.ensures.desk
            c.scan.ensures.looks c.args.low c.args.most refl c.scan.new.rows c.in-Ok.ensures.scanned,
        t.comes,
        scanned_work g.D.Disk c.args.shared.now _ c.args.node.now c.scan.new.node c.args.number c.args.trx _ t desk c.scan.ensures.desk
            c.scan.ensures.looks c.args.low c.args.most refl c.scan.new.rows c.in-Ok.ensures.scanned,
        scanned_reply g.D.Disk c.args.shared.now _ c.args.node.now c.scan.new.node c.args.number c.args.trx _ t desk c.scan.ensures.desk
            c.scan.ensures.looks c.args.low c.args.most refl c.scan.new.rows c.in-Ok.ensures.scanned,
      );
    }

pub halt_read-requires : goal.halt_read-requires
halt_read-requires g c =
    let t = tries_inside g.D.Disk c.args.shared.now _ c.args.self.now c.self.view_is c.args.node.now c.args.number c.args.trx _
    c.requires.tries in
    record {
      work = (
        _,
        c.args.node.now,
        t.session,
        t.line,
        t.comes,
        work_nothing g.D.Disk c.args.shared.now _ c.args.node.now c.scan.new.node c.args.number c.args.trx _ t c.scan.new.self
            c.scan.ensures.desk c.scan.ensures.looks,
        stops_reading g.D.Disk c.args.shared.now _ c.args.node.now c.scan.new.node c.args.number c.args.trx _ t c.scan.new.self
            c.scan.ensures.desk c.scan.ensures.looks c.in-Err-scan.halt c.in-Err-scan.ensures.cause,
      );
    }

pub returns-in-Ok-clause-turn : goal.returns-in-Ok-clause-turn
returns-in-Ok-clause-turn g c =
    let t = tries_inside g.D.Disk c.args.shared.now _ c.args.self.now c.self.view_is c.args.node.now c.args.number c.args.trx _
    c.requires.tries in
    let desk = c.scan.new.self in
    turn_outside g.D.Disk c.args.shared.now _ c.args.self.now c.self.view_is c.answer_read.new.self c.args.node.now c.answer_read.new.node
    c.args.number c.answer_read.result
    (c.answer_read.ensures _ c.args.node.now t.session t.line
    (scanned_pages g.D.Disk c.args.shared.now _ c.args.node.now c.scan.new.node c.args.number c.args.trx _ t desk c.scan.ensures.desk
    c.scan.ensures.looks c.args.low c.args.most refl c.scan.new.rows c.in-Ok.ensures.scanned)
    t.comes
    (scanned_work g.D.Disk c.args.shared.now _ c.args.node.now c.scan.new.node c.args.number c.args.trx _ t desk c.scan.ensures.desk
    c.scan.ensures.looks c.args.low c.args.most refl c.scan.new.rows c.in-Ok.ensures.scanned)
    (scanned_reply g.D.Disk c.args.shared.now _ c.args.node.now c.scan.new.node c.args.number c.args.trx _ t desk c.scan.ensures.desk
    c.scan.ensures.looks c.args.low c.args.most refl c.scan.new.rows c.in-Ok.ensures.scanned))

pub returns-in-Err-scan-clause-turn : goal.returns-in-Err-scan-clause-turn
returns-in-Err-scan-clause-turn g c =
    let t = tries_inside g.D.Disk c.args.shared.now _ c.args.self.now c.self.view_is c.args.node.now c.args.number c.args.trx _
    c.requires.tries in
    turn_outside g.D.Disk c.args.shared.now _ c.args.self.now c.self.view_is c.halt_read.new.self c.args.node.now c.halt_read.new.node
    c.args.number c.halt_read.result
    (c.halt_read.ensures _ c.args.node.now t.session t.line t.comes
    (work_nothing g.D.Disk c.args.shared.now _ c.args.node.now c.scan.new.node c.args.number c.args.trx _ t c.scan.new.self
    c.scan.ensures.desk c.scan.ensures.looks)
    (stops_reading g.D.Disk c.args.shared.now _ c.args.node.now c.scan.new.node c.args.number c.args.trx _ t c.scan.new.self
    c.scan.ensures.desk c.scan.ensures.looks c.in-Err-scan.halt c.in-Err-scan.ensures.cause))
