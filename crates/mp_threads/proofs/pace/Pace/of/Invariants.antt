use Rattle.std.proofs.Common.{◌≡◌, length}
use Rattle.mp_threads.proofs.pace.Pace.of.Given as goal

abbrev pub invariant-loop-it : goal.invariant-loop-it
invariant-loop-it l = length l.tries ≡ 256
