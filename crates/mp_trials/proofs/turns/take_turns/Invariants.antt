use Rattle.std.proofs.Common.{◌≡◌, []}
use Rattle.mp_buffer_fusion.specs.Agreement.{AgreesIn}
use Rattle.mp_trials.specs.Turns.{KeepsLog}
use Rattle.mp_trials.proofs.turns.take_turns.Given as goal

-- after each turn that ended the pool is empty
abbrev pub invariant-loop-turn : goal.invariant-loop-turn
invariant-loop-turn g l = record {
  run : l.node.run ≡ l.shared;
  frames : l.node.frames ≡ [];
  keeps : KeepsLog l.p l.fn.node l.node;
  pool : l.pool ≡ [];
  agrees : AgreesIn [] l.node l.p;
}
