-- the primary is at its desk, with so many pages more at most, and the walk came so many levels down
use Rattle.mp_desk.specs.Desks.{IsAtDesk, Brings, HasSameWork}
use Rattle.mp_desk.proofs.Walking.{Walked}
use Rattle.mp_desk.proofs.desk.Desk.leaf.Given as goal

abbrev pub invariant-loop-level : goal.invariant-loop-level
invariant-loop-level g l = record {
  desk : IsAtDesk l.shared l.self l.p l.node;
  brings : Brings l._level l.p l.initial.self l.self l.initial.node l.node;
  rest : HasSameWork l.initial.self l.self;
  walked : Walked l.self.pool l.key l._level l.number;
}
