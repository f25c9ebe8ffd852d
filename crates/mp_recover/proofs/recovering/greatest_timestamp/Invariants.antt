-- The greatest of those so far and of those behind is the greatest of all.
use Rattle.std.proofs.Common.{◌≡◌, drop, map}
use Rattle.mp_recover.specs.Finding.{greatest_of}
use Rattle.mp_recover.proofs.recovering.greatest_timestamp.Given as goal

abbrev pub invariant-loop-commit : goal.invariant-loop-commit
invariant-loop-commit l = greatest_of l.newest (map (λ c. c.cts) (drop l.commit-index l.commits)) ≡ greatest_of 0 (map (λ c. c.cts) l.commits)
