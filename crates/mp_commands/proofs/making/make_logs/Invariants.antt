-- The logs so far are fresh, and all are there.
use Rattle.std.proofs.Common.{ℕ}
use Rattle.mp_files.specs.Nine.{At, StillDisk}
use Rattle.mp_commands.specs.Fresh.{MadeBelow}
use Rattle.mp_commands.proofs.making.make_logs.Given as goal

abbrev pub invariant-loop-before : goal.invariant-loop-before
invariant-loop-before g l = record {
  made_so_far : MadeBelow g.D.Disk l.before l.initial.logs.items l.logs.items;
  still : (k : ℕ) → At (StillDisk g.D.Disk) l.initial.logs.items l.logs.items k;
}
