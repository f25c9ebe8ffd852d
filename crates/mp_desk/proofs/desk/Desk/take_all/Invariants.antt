-- the primary is at its desk with its plan, and the pages of the first changes are its to write
use Rattle.std.proofs.Common.{◌≡◌}
use Rattle.mp_desk.specs.Desks.{IsAtDesk, Brings}
use Rattle.mp_desk.proofs.HeldPlans.{TookFirst}
use Rattle.mp_desk.proofs.desk.Desk.take_all.Given as goal

abbrev pub invariant-loop-i : goal.invariant-loop-i
invariant-loop-i g l = record {
  desk : IsAtDesk l.shared l.self l.p l.node;
  brings : Brings l.i l.p l.initial.self l.self l.initial.node l.node;
  plan : l.self.plan ≡ l.initial.self.plan;
  mtr : l.self.mtr ≡ l.initial.self.mtr;
  took : TookFirst l.p l.self.pool l.initial.self.plan l.node l.i;
}
