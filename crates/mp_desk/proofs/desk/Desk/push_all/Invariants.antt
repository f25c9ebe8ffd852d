use Rattle.mp_desk.proofs.GivenBack.{PushedUpTo}
use Rattle.mp_desk.proofs.desk.Desk.push_all.Given as goal

abbrev pub invariant-loop-i : goal.invariant-loop-i
invariant-loop-i l = PushedUpTo l.fn.shared l.fn.self l.fn.p l.fn.node l.i l.self l.node
