use Rattle.std.proofs.Common.{sym, subst, arith}
use Rattle.mp_plans.specs.Fitting.{IsLeafOf}
use Rattle.mp_desk.proofs.Moving.{looks_go}
use Rattle.mp_desk.proofs.AtDesk.{wait_later}
use Rattle.mp_desk.proofs.Looking.{given_part}
use Rattle.mp_desk.proofs.Replaced.{led_looks, led_llsn, led_room, took_looks, took_llsn, took_room, took_leaf, took_shows}
use Rattle.mp_desk.proofs.desk.Desk.replaced.Goals as goal

pub leaf-requires-clause-desk : goal.leaf-requires-clause-desk
leaf-requires-clause-desk g c =
    let q = given_part c.args.shared.now c.args.p c.args.self.now c.args.node.now c.requires.desk c.requires.afresh in
    c.make_room.ensures.agrees c.args.shared.now c.args.p c.args.node.now q.0 q.1 q.2 c.requires.desk

pub leaf-requires-clause-room : goal.leaf-requires-clause-room
leaf-requires-clause-room g c =
    let q = given_part c.args.shared.now c.args.p c.args.self.now c.args.node.now c.requires.desk c.requires.afresh in
    let room = (c.make_room.ensures.room q.0 q.1 q.2).1 in
    omega (arith, room)

pub take-requires-clause-room : goal.take-requires-clause-room
take-requires-clause-room g c =
    let room = led_room c.args.shared.now c.args.p c.args.self.now c.make_room.new.self c.leaf.new.self c.args.node.now c.leaf.new.node c.requires.desk c.requires.afresh c.make_room.ensures.rest c.make_room.ensures.room c.leaf.ensures.brings c.leaf.ensures.rest in
    omega (arith, room)

pub returns-in-Err-clause-looks : goal.returns-in-Err-clause-looks
returns-in-Err-clause-looks g c = led_looks c.args.shared.now c.args.p c.args.self.now c.make_room.new.self c.leaf.new.self c.args.node.now c.leaf.new.node c.requires.desk c.requires.afresh c.make_room.ensures.rest c.make_room.ensures.room c.leaf.ensures.brings c.leaf.ensures.rest

pub returns-in-Err-clause-llsn : goal.returns-in-Err-clause-llsn
returns-in-Err-clause-llsn g c = led_llsn c.args.shared.now c.args.p c.args.self.now c.make_room.new.self c.leaf.new.self c.args.node.now c.leaf.new.node c.requires.desk c.requires.afresh c.make_room.ensures.rest c.make_room.ensures.room c.leaf.ensures.brings c.leaf.ensures.rest

pub returns-in-Err-clause-room : goal.returns-in-Err-clause-room
returns-in-Err-clause-room g c =
    let room = led_room c.args.shared.now c.args.p c.args.self.now c.make_room.new.self c.leaf.new.self c.args.node.now c.leaf.new.node c.requires.desk c.requires.afresh c.make_room.ensures.rest c.make_room.ensures.room c.leaf.ensures.brings c.leaf.ensures.rest in
    omega (arith, room)

pub returns-in-Err-take-clause-looks : goal.returns-in-Err-take-clause-looks
returns-in-Err-take-clause-looks g c = took_looks c.args.shared.now c.args.p c.args.self.now c.make_room.new.self c.leaf.new.self c.args.node.now c.leaf.new.node c.requires.desk c.requires.afresh c.make_room.ensures.rest c.make_room.ensures.room c.leaf.ensures.brings c.leaf.ensures.rest c.take.new.self c.take.new.node c.take.ensures.brings c.take.ensures.rest

pub returns-in-Err-take-clause-llsn : goal.returns-in-Err-take-clause-llsn
returns-in-Err-take-clause-llsn g c = took_llsn c.args.shared.now c.args.p c.args.self.now c.make_room.new.self c.leaf.new.self c.args.node.now c.leaf.new.node c.requires.desk c.requires.afresh c.make_room.ensures.rest c.make_room.ensures.room c.leaf.ensures.brings c.leaf.ensures.rest c.take.new.self c.take.new.node c.take.ensures.brings c.take.ensures.rest

pub returns-in-Err-take-clause-room : goal.returns-in-Err-take-clause-room
returns-in-Err-take-clause-room g c = took_room c.args.shared.now c.args.p c.args.self.now c.make_room.new.self c.leaf.new.self c.args.node.now c.leaf.new.node c.requires.desk c.requires.afresh c.make_room.ensures.rest c.make_room.ensures.room c.leaf.ensures.brings c.leaf.ensures.rest c.take.new.self c.take.new.node c.take.ensures.brings c.take.ensures.rest

pub returns-in-Err-take-clause-cause : goal.returns-in-Err-take-clause-cause
returns-in-Err-take-clause-cause g c = wait_later c.args.p c.args.node.now c.leaf.new.node c.take.new.node c.in-Err-take.wait (looks_go c.args.p c.args.node.now c.leaf.new.node c.leaf.ensures.brings.looked) c.in-Err-take.ensures.cause

pub newest_in-requires : goal.newest_in-requires
newest_in-requires g c =
    subst (IsLeafOf c.args.key) (sym c.look.ensures.2)
    (took_leaf c.args.shared.now c.args.p c.args.self.now c.make_room.new.self c.leaf.new.self c.args.node.now c.leaf.new.node c.requires.desk c.requires.afresh c.make_room.ensures.rest c.make_room.ensures.room c.leaf.ensures.brings c.leaf.ensures.rest c.take.new.self c.take.new.node c.take.ensures.brings c.take.ensures.rest
    c.args.key c.in-Ok.number c.in-Ok.ensures.leaf c.in-Ok.ensures.way c.look.ensures.0 c.look.ensures.1)

pub returns-in-Ok-take-clause-looks : goal.returns-in-Ok-take-clause-looks
returns-in-Ok-take-clause-looks g c = took_looks c.args.shared.now c.args.p c.args.self.now c.make_room.new.self c.leaf.new.self c.args.node.now c.leaf.new.node c.requires.desk c.requires.afresh c.make_room.ensures.rest c.make_room.ensures.room c.leaf.ensures.brings c.leaf.ensures.rest c.take.new.self c.take.new.node c.take.ensures.brings c.take.ensures.rest

pub returns-in-Ok-take-clause-llsn : goal.returns-in-Ok-take-clause-llsn
returns-in-Ok-take-clause-llsn g c = took_llsn c.args.shared.now c.args.p c.args.self.now c.make_room.new.self c.leaf.new.self c.args.node.now c.leaf.new.node c.requires.desk c.requires.afresh c.make_room.ensures.rest c.make_room.ensures.room c.leaf.ensures.brings c.leaf.ensures.rest c.take.new.self c.take.new.node c.take.ensures.brings c.take.ensures.rest

pub returns-in-Ok-take-clause-room : goal.returns-in-Ok-take-clause-room
returns-in-Ok-take-clause-room g c = took_room c.args.shared.now c.args.p c.args.self.now c.make_room.new.self c.leaf.new.self c.args.node.now c.leaf.new.node c.requires.desk c.requires.afresh c.make_room.ensures.rest c.make_room.ensures.room c.leaf.ensures.brings c.leaf.ensures.rest c.take.new.self c.take.new.node c.take.ensures.brings c.take.ensures.rest

pub returns-in-Ok-take-clause-shows : goal.returns-in-Ok-take-clause-shows
returns-in-Ok-take-clause-shows g c =
    took_shows c.args.shared.now c.args.p c.args.self.now c.make_room.new.self c.leaf.new.self c.args.node.now c.leaf.new.node c.requires.desk c.requires.afresh c.make_room.ensures.rest c.make_room.ensures.room c.leaf.ensures.brings c.leaf.ensures.rest c.take.new.self c.take.new.node c.take.ensures.brings c.take.ensures.rest
    c.args.key c.in-Ok.number c.in-Ok.ensures.leaf c.in-Ok.ensures.way c.look.ensures.0 c.look.ensures.1 c.look.result.now c.look.ensures.2 c.newest_in.result c.newest_in.ensures.row
