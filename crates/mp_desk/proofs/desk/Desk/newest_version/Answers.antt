use Rattle.std.proofs.Common.{ap, sym, subst, ◌∙◌, arith}
use Rattle.mp_cells.specs.declared.rows.Row.{Row}
use Rattle.mp_histories.proofs.CleanRows.{version_key}
use Rattle.mp_plans.specs.Fitting.{IsLeafOf}
use Rattle.mp_desk.proofs.Looking.{look_brings, look_dropped, look_both, given_part}
use Rattle.mp_desk.proofs.ReadValue.{the_leaf, shows_since}
use Rattle.mp_desk.proofs.Walking.{is_buffered}
use Rattle.mp_desk.proofs.desk.Desk.newest_version.Goals as goal

pub leaf-requires-clause-desk : goal.leaf-requires-clause-desk
leaf-requires-clause-desk g c =
    let q = given_part c.args.shared.now c.args.p c.args.self.now c.args.node.now c.requires.desk c.requires.afresh in
    c.make_room.ensures.agrees c.args.shared.now c.args.p c.args.node.now q.0 q.1 q.2 c.requires.desk

pub leaf-requires-clause-room : goal.leaf-requires-clause-room
leaf-requires-clause-room g c =
    let q = given_part c.args.shared.now c.args.p c.args.self.now c.args.node.now c.requires.desk c.requires.afresh in
    let room = (c.make_room.ensures.room q.0 q.1 q.2).1 in
    omega (arith, room)

pub look-requires-clause-buffered : goal.look-requires-clause-buffered
look-requires-clause-buffered g c =
    is_buffered c.leaf.new.self.pool c.in-Ok.number c.in-Ok.ensures.leaf.leaf c.in-Ok.ensures.leaf.buffer

pub newest_in-requires : goal.newest_in-requires
newest_in-requires g c =
    subst (IsLeafOf c.args.key) (sym c.look.ensures.2) (the_leaf c.args.p c.args.self.now c.leaf.new.self c.args.node.now c.leaf.new.node (look_both c.args.p c.args.self.now c.make_room.new.self c.leaf.new.self c.args.node.now c.args.node.now c.leaf.new.node (look_dropped c.args.p c.args.self.now c.make_room.new.self c.args.node.now c.make_room.ensures.rest c.make_room.ensures.room) (look_brings c.args.p 3 c.make_room.new.self c.leaf.new.self c.args.node.now c.leaf.new.node c.leaf.ensures.brings c.leaf.ensures.rest)) c.args.key c.in-Ok.number c.in-Ok.ensures.leaf c.look.ensures.0 c.look.ensures.1)

pub returns-in-Ok-clause-looks : goal.returns-in-Ok-clause-looks
returns-in-Ok-clause-looks g c =
    look_both c.args.p c.args.self.now c.make_room.new.self c.leaf.new.self c.args.node.now c.args.node.now c.leaf.new.node (look_dropped c.args.p c.args.self.now c.make_room.new.self c.args.node.now c.make_room.ensures.rest c.make_room.ensures.room) (look_brings c.args.p 3 c.make_room.new.self c.leaf.new.self c.args.node.now c.leaf.new.node c.leaf.ensures.brings c.leaf.ensures.rest)

pub returns-in-Err-clause-looks : goal.returns-in-Err-clause-looks
returns-in-Err-clause-looks g c =
    look_both c.args.p c.args.self.now c.make_room.new.self c.leaf.new.self c.args.node.now c.args.node.now c.leaf.new.node (look_dropped c.args.p c.args.self.now c.make_room.new.self c.args.node.now c.make_room.ensures.rest c.make_room.ensures.room) (look_brings c.args.p 3 c.make_room.new.self c.leaf.new.self c.args.node.now c.leaf.new.node c.leaf.ensures.brings c.leaf.ensures.rest)

pub returns-in-Ok-clause-key : goal.returns-in-Ok-clause-key
returns-in-Ok-clause-key g c =
    ap (λ (r : Row). r.key) c.newest_in.ensures.row ∙ version_key c.args.key c.look.result.now.rows

pub returns-in-Ok-clause-newest : goal.returns-in-Ok-clause-newest
returns-in-Ok-clause-newest g c =
    λ start q r has before given there. shows_since c.args.p c.args.self.now c.leaf.new.self c.args.node.now c.leaf.new.node (look_both c.args.p c.args.self.now c.make_room.new.self c.leaf.new.self c.args.node.now c.args.node.now c.leaf.new.node (look_dropped c.args.p c.args.self.now c.make_room.new.self c.args.node.now c.make_room.ensures.rest c.make_room.ensures.room) (look_brings c.args.p 3 c.make_room.new.self c.leaf.new.self c.args.node.now c.leaf.new.node c.leaf.ensures.brings c.leaf.ensures.rest)) c.args.key c.in-Ok.number c.in-Ok.ensures.leaf c.look.ensures.0 c.look.ensures.1 start q r has before given there c.look.result.now c.look.ensures.2 c.newest_in.result c.newest_in.ensures.row
