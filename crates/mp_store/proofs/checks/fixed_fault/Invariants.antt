-- What the rest from here finds is what all finds.
use Rattle.std.proofs.Common.{◌≡◌, ◌+◌, drop}
use Rattle.mp_store.specs.Checks.{fixed_fault}
use Rattle.mp_store.proofs.checks.fixed_fault.Given as goal

abbrev pub invariant-loop-i : goal.invariant-loop-i
invariant-loop-i l = record {
  at : l.at ≡ l.place + l.i;
  rest : fixed_fault (l.place + l.i) (drop l.i l.wanted) (drop l.i l.bytes) ≡ fixed_fault l.place l.wanted l.bytes;
}
