use Rattle.std.proofs.Common.{refl}
use Rattle.mp_book.specs.declared.stage.Task.TheVariants.{Statement, Unprinted, Nothing}
use Rattle.mp_primary.proofs.StagedTurns.{place_below, its_task, next_stated}
use Rattle.mp_primary.proofs.RoomedTurns.{if_ok_map, on_err_map, roomed_stands, roomed_kept, roomed_comes, roomed_turn, roomed_told, roomed_stays, roomed_still, roomed_same, roomed_may, roomed_sessions}
use Rattle.mp_primary.proofs.primary.Primary.turn_of.Goals as goal

pub leave-requires-clause-session : goal.leave-requires-clause-session
leave-requires-clause-session g c =
    let own = c.requires.session in
    record { session = own.session; found = own.found; task = its_task _ c.args.self.now c.self.view_is c.args.number own.session own.found c.index.result.now c.index.ensures c.task.result c.task.ensures Unprinted c.in-Unprinted.is }

pub make_room-requires : goal.make_room-requires
make_room-requires g c = let own = c.requires.session in place_below _ c.args.self.now c.self.view_is c.args.number own.session own.found

pub returns-in-Err-clause-memory : goal.returns-in-Err-clause-memory
returns-in-Err-clause-memory g c =
    let own = c.requires.session in
    (refl, roomed_stands g.D.Disk c.args.shared.now _ c.args.self.now c.self.view_is c.args.node.now c.args.number own.session own.found c.requires.stands c.make_room.new.self c.make_room.ensures.answers c.make_room.ensures.same c.make_room.ensures.book)

pub returns-in-Err-clause-kept : goal.returns-in-Err-clause-kept
returns-in-Err-clause-kept g c =
    let own = c.requires.session in
    roomed_kept g.D.Disk c.args.shared.now _ c.args.self.now c.self.view_is c.args.node.now c.args.number own.session own.found c.requires.stands c.make_room.new.self c.make_room.ensures.answers c.make_room.ensures.same c.make_room.ensures.book

pub try_line-requires : goal.try_line-requires
try_line-requires g c =
    let own = c.requires.session in
    record {
      comes = roomed_comes g.D.Disk c.args.shared.now _ c.args.self.now c.self.view_is c.args.node.now c.args.number own.session own.found c.requires.stands c.make_room.new.self c.make_room.ensures.answers c.make_room.ensures.same c.make_room.ensures.book
          c.in-Statement.line (next_stated own.session c.in-Statement.line (its_task _ c.args.self.now c.self.view_is c.args.number own.session own.found c.index.result.now c.index.ensures c.task.result c.task.ensures (Statement c.in-Statement.line) c.in-Statement.is)) c.in_default.ensures.room own.inside;
      told = roomed_told g.D.Disk c.args.shared.now _ c.args.self.now c.self.view_is c.args.node.now c.args.number own.session own.found c.requires.stands c.make_room.new.self c.make_room.ensures.answers c.make_room.ensures.same c.make_room.ensures.book c.requires.told;
    }

pub returns-in-Nothing-clause-turn : goal.returns-in-Nothing-clause-turn
returns-in-Nothing-clause-turn g c =
    let own = c.requires.session in
    c.nothing_left.ensures c.args.shared.now c.args.node.now c.args.number own.session c.requires.stands c.requires.told own.found (its_task _ c.args.self.now c.self.view_is c.args.number own.session own.found c.index.result.now c.index.ensures c.task.result c.task.ensures Nothing c.in-Nothing.is) own

pub returns-in_default-clause-turn : goal.returns-in_default-clause-turn
returns-in_default-clause-turn g c =
    let own = c.requires.session in
    if_ok_map _ _ c.try_line.result (roomed_turn g.D.Disk c.args.shared.now _ c.args.self.now c.self.view_is c.args.node.now c.args.number own.session own.found c.requires.stands c.make_room.new.self c.make_room.ensures.answers c.make_room.ensures.same c.make_room.ensures.book c.try_line.new.self c.try_line.new.node) c.try_line.ensures.turn

pub returns-in_default-clause-memory : goal.returns-in_default-clause-memory
returns-in_default-clause-memory g c =
    let own = c.requires.session in
    on_err_map _ _ c.try_line.result (roomed_stays g.D.Disk c.args.shared.now _ c.args.self.now c.self.view_is c.args.node.now c.args.number own.session own.found c.requires.stands c.make_room.new.self c.make_room.ensures.answers c.make_room.ensures.same c.make_room.ensures.book c.try_line.new.self c.try_line.new.node) c.try_line.ensures.memory

pub returns-in_default-clause-kept : goal.returns-in_default-clause-kept
returns-in_default-clause-kept g c =
    let own = c.requires.session in
    on_err_map _ _ c.try_line.result (roomed_still g.D.Disk c.args.shared.now _ c.args.self.now c.self.view_is c.args.node.now c.args.number own.session own.found c.requires.stands c.make_room.new.self c.make_room.ensures.answers c.make_room.ensures.same c.make_room.ensures.book c.try_line.new.self c.try_line.new.node) c.try_line.ensures.memory

pub returns-in-Err-clause-still : goal.returns-in-Err-clause-still
returns-in-Err-clause-still g c =
    let own = c.requires.session in
    roomed_same g.D.Disk c.args.shared.now _ c.args.self.now c.self.view_is c.args.node.now c.args.number own.session own.found c.requires.stands c.make_room.new.self c.make_room.ensures.answers c.make_room.ensures.same c.make_room.ensures.book _ c.args.node.now (refl, refl)

pub returns-in-Err-clause-sessions : goal.returns-in-Err-clause-sessions
returns-in-Err-clause-sessions g c =
    let own = c.requires.session in
    roomed_may g.D.Disk c.args.shared.now _ c.args.self.now c.self.view_is c.args.node.now c.args.number own.session own.found c.requires.stands c.make_room.new.self c.make_room.ensures.answers c.make_room.ensures.same c.make_room.ensures.book

pub returns-in_default-clause-still : goal.returns-in_default-clause-still
returns-in_default-clause-still g c =
    let own = c.requires.session in
    on_err_map _ _ c.try_line.result (roomed_same g.D.Disk c.args.shared.now _ c.args.self.now c.self.view_is c.args.node.now c.args.number own.session own.found c.requires.stands c.make_room.new.self c.make_room.ensures.answers c.make_room.ensures.same c.make_room.ensures.book c.try_line.new.self c.try_line.new.node) c.try_line.ensures.memory

pub returns-in_default-clause-sessions : goal.returns-in_default-clause-sessions
returns-in_default-clause-sessions g c =
    let own = c.requires.session in
    on_err_map _ _ c.try_line.result (roomed_sessions g.D.Disk c.args.shared.now _ c.args.self.now c.self.view_is c.args.node.now c.args.number own.session own.found c.requires.stands c.make_room.new.self c.make_room.ensures.answers c.make_room.ensures.same c.make_room.ensures.book c.try_line.new.self c.try_line.new.node) c.try_line.ensures.memory
