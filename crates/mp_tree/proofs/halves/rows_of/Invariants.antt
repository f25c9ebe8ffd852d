-- the rows so far
use Rattle.std.proofs.Common.{◌≡◌, ◌-◌, ◌≤◌, take, drop}
use Rattle.mp_tree.proofs.halves.rows_of.Given as goal

abbrev pub invariant-loop-i : goal.invariant-loop-i
invariant-loop-i l = (l.rows ≡ take (l.i - l.from) (drop l.from l.page.rows)) × (l.from ≤ l.i)
