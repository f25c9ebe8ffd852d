-- none is clear up to here
use Rattle.std.proofs.Common.{◌≡◌, ◌-◌, ◌≤◌}
use Rattle.mp_tree.specs.Planning.{clear_from}
use Rattle.mp_tree.proofs.clear.next_clear.Given as goal

abbrev pub invariant-loop-page : goal.invariant-loop-page
invariant-loop-page l = record {
  least : l.from ≤ l.page;
  between : clear_from (4096 - l.from) l.from l.meta.bits ≡ clear_from (4096 - l.page) l.page l.meta.bits;
}
