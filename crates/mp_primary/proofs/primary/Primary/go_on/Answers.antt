use Rattle.std.proofs.Common.{◌≡◌, sym, ◌∙◌}
use Rattle.mp_primary.proofs.LeftTurns.{no_begin, comes_left, turn_left}
use Rattle.mp_primary.proofs.primary.Primary.go_on.Goals as goal

pub unreachable-requires : goal.unreachable-requires
unreachable-requires g c = no_begin g.D.Disk c.args.shared.now c.args.self.now c.args.node.now c.args.number c.args.trx c.args.stmt c.requires.tries c.in-Begin.is

pub take_back-requires-clause-comes : goal.take_back-requires-clause-comes
take_back-requires-clause-comes g c = comes_left g.D.Disk c.args.shared.now _ c.args.self.now c.self.view_is c.args.node.now c.args.number c.args.trx c.args.stmt c.requires.tries c.leave.new.self c.leave.ensures.set c.leave.ensures.book

pub returns-in-Rollback-clause-turn : goal.returns-in-Rollback-clause-turn
returns-in-Rollback-clause-turn g c = turn_left g.D.Disk c.args.shared.now _ c.args.self.now c.self.view_is c.args.node.now c.args.number c.args.trx c.args.stmt c.requires.tries c.leave.new.self c.leave.ensures.set c.leave.ensures.book _ _ _ c.take_back.ensures
