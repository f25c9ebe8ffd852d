-- Whatever the turn came to, the primary went on by it.
use Rattle.mp_threads.proofs.DrivenAlone.{turn_goes, turn_ends}
use Rattle.mp_threads.proofs.on_thread.take_turn.Goals as goal

pub returns-clause-on : goal.returns-clause-on
returns-clause-on g c =
    let e = c.turn.ensures in
    turn_goes g.D.Disk c.args.shared.now c.args.primary.now c.turn.new.self c.args.node.now c.turn.new.node c.args.session c.turn.result
    e.turn e.memory e.kept e.still e.sessions

pub returns-clause-ends : goal.returns-clause-ends
returns-clause-ends g c =
    turn_ends g.D.Disk c.args.shared.now c.args.primary.now c.turn.new.self c.args.node.now c.turn.new.node c.args.session c.turn.result
    c.turn.ensures.turn
