-- The parts of the primaries before this place were dealt out, and the others are left.
use Rattle.std.proofs.Common.{[], take}
use Rattle.std.specs.List.{AllByRecursion}
use Rattle.mp_supports.specs.Work.{Work}
use Rattle.mp_members.specs.Running.{RunsApart}
use Rattle.mp_threads.specs.Dealing.{IsDealt, HasLeft, AllDealt}
use Rattle.mp_threads.proofs.DealtOut.{BeginsSo}
use Rattle.mp_threads.proofs.dealing.deal.Given as goal

abbrev pub invariant-loop-place : goal.invariant-loop-place
invariant-loop-place g l = record {
  rest : IsDealt l.initial.members l.members;
  left : HasLeft l.initial.members.node l.place l.members.node;
  dealt : (work : Work) → RunsApart g.D.Disk work l.initial.members []
      → AllDealt g.D.Disk work l.initial.members.shared (take l.place l.initial.members.primaries.items) l.runners.items;
  begins : AllByRecursion BeginsSo l.runners.items;
}
