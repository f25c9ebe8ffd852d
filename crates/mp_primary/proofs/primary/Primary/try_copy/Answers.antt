use Rattle.std.proofs.Common.{Some}
use Rattle.mp_script.specs.declared.statements.Stmt.TheVariants.{Copy}
use Rattle.mp_primary.proofs.CopyTurns.{copy_work, copy_stops, copy_writer, copy_afresh, copy_few, copy_agrees, copy_ends}
use Rattle.mp_primary.proofs.PutTurns.{seen_turn, tries_inside, put_desk, put_writer, put_afresh}
use Rattle.mp_primary.proofs.primary.Primary.try_copy.Goals as goal

pub get-requires-clause-desk : goal.get-requires-clause-desk
get-requires-clause-desk g c = put_desk g.D.Disk _ c.args.self.now c.self.view_is c.args.shared.now c.args.node.now c.args.number c.args.trx (Copy c.args.from c.args.to) c.requires.tries

pub get-requires-clause-reader : goal.get-requires-clause-reader
get-requires-clause-reader g c = put_writer g.D.Disk _ c.args.self.now c.self.view_is c.args.shared.now c.args.node.now c.args.number c.args.trx (Copy c.args.from c.args.to) c.requires.tries

pub get-requires-clause-afresh : goal.get-requires-clause-afresh
get-requires-clause-afresh g c = put_afresh g.D.Disk _ c.args.self.now c.self.view_is c.args.shared.now c.args.node.now c.args.number c.args.trx (Copy c.args.from c.args.to) c.requires.tries

pub put-done-requires-clause-own : goal.put-done-requires-clause-own
put-done-requires-clause-own g c = (copy_work g.D.Disk _ c.args.self.now c.self.view_is c.args.shared.now c.args.node.now c.args.number c.args.trx c.args.from c.args.to c.requires.tries c.get.new.self c.get.new.node c.get.ensures.desk c.get.ensures.looks).own

pub put-done-requires-clause-writer : goal.put-done-requires-clause-writer
put-done-requires-clause-writer g c = copy_writer g.D.Disk _ c.args.self.now c.self.view_is c.args.shared.now c.args.node.now c.args.number c.args.trx c.args.from c.args.to c.requires.tries c.get.new.self c.get.new.node c.get.ensures.desk c.get.ensures.looks

pub put-done-requires-clause-afresh : goal.put-done-requires-clause-afresh
put-done-requires-clause-afresh g c = copy_afresh g.D.Disk _ c.args.self.now c.self.view_is c.args.shared.now c.args.node.now c.args.number c.args.trx c.args.from c.args.to c.requires.tries c.get.new.self c.get.new.node c.get.ensures.desk c.get.ensures.looks

pub put-done-requires-clause-few : goal.put-done-requires-clause-few
put-done-requires-clause-few g c = copy_few g.D.Disk _ c.args.self.now c.self.view_is c.args.shared.now c.args.node.now c.args.number c.args.trx c.args.from c.args.to c.requires.tries c.get.new.self c.get.new.node c.get.ensures.desk c.get.ensures.looks

pub put-done-requires-clause-log : goal.put-done-requires-clause-log
put-done-requires-clause-log g c = (copy_work g.D.Disk _ c.args.self.now c.self.view_is c.args.shared.now c.args.node.now c.args.number c.args.trx c.args.from c.args.to c.requires.tries c.get.new.self c.get.new.node c.get.ensures.desk c.get.ensures.looks).log

pub put-done-requires-clause-agrees : goal.put-done-requires-clause-agrees
put-done-requires-clause-agrees g c = copy_agrees g.D.Disk _ c.args.self.now c.self.view_is c.args.shared.now c.args.node.now c.args.number c.args.trx c.args.from c.args.to c.requires.tries c.get.new.self c.get.new.node c.get.ensures.desk c.get.ensures.looks

pub end_write-requires : goal.end_write-requires
end_write-requires g c = record { after = (_, c.args.node.now, copy_ends g.D.Disk _ c.args.self.now c.self.view_is c.args.shared.now c.args.node.now c.args.number c.args.trx c.args.from c.args.to c.requires.tries c.get.new.self c.get.new.node c.get.ensures.desk c.get.ensures.looks c.in-Ok.value c.in-Ok.ensures.got c.put-done.new.self c.put-done.new.media c.put-done.new.node c.put-done.ensures.desk c.put-done.ensures.own c.put-done.ensures.counted c.put-done.ensures.tells c.put-done.result c.put-done.ensures.wrote c.put-done.ensures.quiet c.put-done.ensures.cause c.put-done.ensures.open c.put-done.ensures.still_open c.put-done.ensures.fresh c.put-done.ensures.failed c.put-done.ensures.media) }

pub returns-in-Ok : goal.returns-in-Ok
returns-in-Ok g c =
    seen_turn g.D.Disk _ c.args.self.now c.self.view_is c.args.shared.now c.args.node.now _ _ (Some c.args.number) _
    (c.end_write.ensures _ c.args.node.now (copy_ends g.D.Disk _ c.args.self.now c.self.view_is c.args.shared.now c.args.node.now c.args.number c.args.trx c.args.from c.args.to c.requires.tries c.get.new.self c.get.new.node c.get.ensures.desk c.get.ensures.looks c.in-Ok.value c.in-Ok.ensures.got c.put-done.new.self c.put-done.new.media c.put-done.new.node c.put-done.ensures.desk c.put-done.ensures.own c.put-done.ensures.counted c.put-done.ensures.tells c.put-done.result c.put-done.ensures.wrote c.put-done.ensures.quiet c.put-done.ensures.cause c.put-done.ensures.open c.put-done.ensures.still_open c.put-done.ensures.fresh c.put-done.ensures.failed c.put-done.ensures.media))

pub halt_read-requires : goal.halt_read-requires
halt_read-requires g c =
    let t = tries_inside g.D.Disk _ c.args.self.now c.self.view_is c.args.shared.now c.args.node.now c.args.number c.args.trx (Copy c.args.from c.args.to) c.requires.tries in
    record { work = (_, c.args.node.now, t.session, t.line, t.comes, copy_work g.D.Disk _ c.args.self.now c.self.view_is c.args.shared.now c.args.node.now c.args.number c.args.trx c.args.from c.args.to c.requires.tries c.get.new.self c.get.new.node c.get.ensures.desk c.get.ensures.looks, copy_stops g.D.Disk _ c.args.self.now c.self.view_is c.args.shared.now c.args.node.now c.args.number c.args.trx c.args.from c.args.to c.requires.tries c.get.new.self c.get.new.node c.get.ensures.desk c.get.ensures.looks c.in-Err.halt c.in-Err.ensures.cause) }

pub returns-in-Err : goal.returns-in-Err
returns-in-Err g c =
    let t = tries_inside g.D.Disk _ c.args.self.now c.self.view_is c.args.shared.now c.args.node.now c.args.number c.args.trx (Copy c.args.from c.args.to) c.requires.tries in
    seen_turn g.D.Disk _ c.args.self.now c.self.view_is c.args.shared.now c.args.node.now _ _ (Some c.args.number) _
    (c.halt_read.ensures _ c.args.node.now t.session t.line t.comes (copy_work g.D.Disk _ c.args.self.now c.self.view_is c.args.shared.now c.args.node.now c.args.number c.args.trx c.args.from c.args.to c.requires.tries c.get.new.self c.get.new.node c.get.ensures.desk c.get.ensures.looks) (copy_stops g.D.Disk _ c.args.self.now c.self.view_is c.args.shared.now c.args.node.now c.args.number c.args.trx c.args.from c.args.to c.requires.tries c.get.new.self c.get.new.node c.get.ensures.desk c.get.ensures.looks c.in-Err.halt c.in-Err.ensures.cause))
