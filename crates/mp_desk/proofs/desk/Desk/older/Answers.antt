use Rattle.std.proofs.Common.{arith}
use Rattle.mp_desk.proofs.Looking.{look_brings, look_dropped, look_both, still_afresh, given_part}
use Rattle.mp_desk.proofs.desk.Desk.older.Goals as goal

pub record-requires-clause-desk : goal.record-requires-clause-desk
record-requires-clause-desk g c =
    let q = given_part c.args.shared.now c.args.p c.args.self.now c.args.node.now c.requires.desk c.requires.afresh in
    c.make_room.ensures.agrees c.args.shared.now c.args.p c.args.node.now q.0 q.1 q.2 c.requires.desk

pub record-requires-clause-afresh : goal.record-requires-clause-afresh
record-requires-clause-afresh g c =
    still_afresh c.args.shared.now c.args.p c.args.self.now c.make_room.new.self c.args.node.now c.args.node.now c.requires.desk (look_dropped c.args.p c.args.self.now c.make_room.new.self c.args.node.now c.make_room.ensures.rest c.make_room.ensures.room) c.requires.afresh

pub record-requires-clause-room : goal.record-requires-clause-room
record-requires-clause-room g c =
    let q = given_part c.args.shared.now c.args.p c.args.self.now c.args.node.now c.requires.desk c.requires.afresh in
    let room = (c.make_room.ensures.room q.0 q.1 q.2).1 in
    omega (arith, room)

pub returns-clause-looks : goal.returns-clause-looks
returns-clause-looks g c =
    look_both c.args.p c.args.self.now c.make_room.new.self c.record.new.self c.args.node.now c.args.node.now c.record.new.node
    (look_dropped c.args.p c.args.self.now c.make_room.new.self c.args.node.now c.make_room.ensures.rest c.make_room.ensures.room)
    (look_brings c.args.p 1 c.make_room.new.self c.record.new.self c.args.node.now c.record.new.node c.record.ensures.brings c.record.ensures.rest)
