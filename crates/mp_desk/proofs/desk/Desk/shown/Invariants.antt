-- so many versions were passed, each hidden
use Rattle.mp_desk.proofs.ShownWalk.{HasPassed}
use Rattle.mp_desk.proofs.desk.Desk.shown.Given as goal

abbrev pub invariant-loop-passed : goal.invariant-loop-passed
invariant-loop-passed g l = HasPassed l.shared l.p l.trx l.initial.row l.row l._passed l.initial.self l.self l.initial.node l.node
