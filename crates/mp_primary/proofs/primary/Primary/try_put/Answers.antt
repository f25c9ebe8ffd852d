use Rattle.std.proofs.Common.{Some}
use Rattle.mp_primary.proofs.PutTurns.{seen_turn, put_desk, put_own, put_writer, put_afresh, put_few, put_log, put_agrees, put_ends}
use Rattle.mp_primary.proofs.primary.Primary.try_put.Goals as goal

pub put-done-requires-clause-desk : goal.put-done-requires-clause-desk
put-done-requires-clause-desk g c =
    let t = c.requires.tries in
    put_desk g.D.Disk _ c.args.self.now c.self.view_is c.args.shared.now c.args.node.now c.args.number c.args.trx t.0 t.1

pub put-done-requires-clause-own : goal.put-done-requires-clause-own
put-done-requires-clause-own g c =
    let t = c.requires.tries in
    put_own g.D.Disk _ c.args.self.now c.self.view_is c.args.shared.now c.args.node.now c.args.number c.args.trx t.0 t.1

pub put-done-requires-clause-writer : goal.put-done-requires-clause-writer
put-done-requires-clause-writer g c =
    let t = c.requires.tries in
    put_writer g.D.Disk _ c.args.self.now c.self.view_is c.args.shared.now c.args.node.now c.args.number c.args.trx t.0 t.1

pub put-done-requires-clause-afresh : goal.put-done-requires-clause-afresh
put-done-requires-clause-afresh g c =
    let t = c.requires.tries in
    put_afresh g.D.Disk _ c.args.self.now c.self.view_is c.args.shared.now c.args.node.now c.args.number c.args.trx t.0 t.1

pub put-done-requires-clause-few : goal.put-done-requires-clause-few
put-done-requires-clause-few g c =
    let t = c.requires.tries in
    put_few g.D.Disk _ c.args.self.now c.self.view_is c.args.shared.now c.args.node.now c.args.number c.args.trx t.0 t.1

pub put-done-requires-clause-log : goal.put-done-requires-clause-log
put-done-requires-clause-log g c =
    let t = c.requires.tries in
    put_log g.D.Disk _ c.args.self.now c.self.view_is c.args.shared.now c.args.node.now c.args.number c.args.trx t.0 t.1

pub put-done-requires-clause-agrees : goal.put-done-requires-clause-agrees
put-done-requires-clause-agrees g c =
    let t = c.requires.tries in
    put_agrees g.D.Disk _ c.args.self.now c.self.view_is c.args.shared.now c.args.node.now c.args.number c.args.trx t.0 t.1

pub end_write-requires : goal.end_write-requires
end_write-requires g c =
    let t = c.requires.tries in
    record { after = (_, c.args.node.now, put_ends g.D.Disk _ c.args.self.now c.self.view_is c.args.shared.now c.args.node.now c.args.number c.args.trx t.0 t.1 c.args.verb c.args.key c.args.value t.2 c.put-done.new.self c.put-done.new.media c.put-done.new.node c.put-done.ensures.desk c.put-done.ensures.own c.put-done.ensures.counted c.put-done.ensures.tells c.put-done.result c.put-done.ensures.wrote c.put-done.ensures.quiet c.put-done.ensures.cause c.put-done.ensures.open c.put-done.ensures.still_open c.put-done.ensures.fresh c.put-done.ensures.failed c.put-done.ensures.media) }

pub returns : goal.returns
returns g c =
    let t = c.requires.tries in
    seen_turn g.D.Disk _ c.args.self.now c.self.view_is c.args.shared.now c.args.node.now _ _ (Some c.args.number) _
    (c.end_write.ensures _ c.args.node.now (put_ends g.D.Disk _ c.args.self.now c.self.view_is c.args.shared.now c.args.node.now c.args.number c.args.trx t.0 t.1 c.args.verb c.args.key c.args.value t.2 c.put-done.new.self c.put-done.new.media c.put-done.new.node c.put-done.ensures.desk c.put-done.ensures.own c.put-done.ensures.counted c.put-done.ensures.tells c.put-done.result c.put-done.ensures.wrote c.put-done.ensures.quiet c.put-done.ensures.cause c.put-done.ensures.open c.put-done.ensures.still_open c.put-done.ensures.fresh c.put-done.ensures.failed c.put-done.ensures.media))
