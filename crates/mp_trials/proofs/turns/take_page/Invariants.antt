use Rattle.std.proofs.Common.{◌≡◌, ℕ}
use Rattle.mp_buffer_fusion.specs.Agreement.{AgreesIn}
use Rattle.mp_trials.specs.Turns.{KeepsLog, HasPage}
use Rattle.mp_trials.proofs.turns.take_page.Given as goal

-- a refused try leaves the pool, the log and the pages
abbrev pub invariant-loop : goal.invariant-loop
invariant-loop g l = record {
  run : l.node.run ≡ l.shared;
  frames : l.node.frames ≡ l.fn.node.frames;
  keeps : KeepsLog l.p l.fn.node l.node;
  same : l.pool ≡ l.fn.pool;
  agrees : AgreesIn l.pool l.node l.p;
  others : (k : ℕ) → HasPage l.fn.pool l.fn.node l.p k → HasPage l.pool l.node l.p k;
}
