-- the child so far, and those that are left
use Rattle.std.proofs.Common.{◌≡◌, length, drop}
use Rattle.mp_cells.specs.Trees.{child_from, child_at}
use Rattle.mp_clean.proofs.reading.child_among.Given as goal

abbrev pub invariant-loop-i : goal.invariant-loop-i
invariant-loop-i l = record {
  rest : child_from l.key l.child (drop l.i l.page.children) ≡ child_at l.key l.page.children;
  count : l.i-end ≡ length l.page.children;
}
