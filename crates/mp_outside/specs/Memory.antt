-- What contracts see of the sources and sinks in memory.
use Rattle.std.specs.Prelude.{ℕ, List}
use Rattle.mp_outside.specs.Calls.{Calls}

-- the bytes that are left, and the calls so far
pub record SourceState : Type 0 where
  pub left : List ℕ
  pub calls : Calls

-- the bytes that were written, how many it takes at most, and the calls so far
pub record SinkState : Type 0 where
  pub written : List ℕ
  pub room : ℕ
  pub calls : Calls
