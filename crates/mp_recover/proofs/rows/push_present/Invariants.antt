-- The rows so far, and those behind them, are all.
use Rattle.std.proofs.Common.{◌≡◌, ◌++◌, drop}
use Rattle.mp_recover.specs.KeptCommits.{present}
use Rattle.mp_recover.proofs.rows.push_present.Given as goal

abbrev pub invariant-loop-row : goal.invariant-loop-row
invariant-loop-row l = l.rows.items ++ present (drop l.row-index l.leaf) ≡ l.initial.rows.items ++ present l.leaf
