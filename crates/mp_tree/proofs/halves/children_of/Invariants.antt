-- the children so far
use Rattle.std.proofs.Common.{◌≡◌, ◌-◌, ◌≤◌, take, drop}
use Rattle.mp_tree.proofs.halves.children_of.Given as goal

abbrev pub invariant-loop-i : goal.invariant-loop-i
invariant-loop-i l = (l.children ≡ take (l.i - l.from) (drop l.from l.page.children)) × (l.from ≤ l.i)
