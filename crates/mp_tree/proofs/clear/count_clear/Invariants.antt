-- those so far, and those from here on
use Rattle.std.proofs.Common.{◌≡◌, ◌+◌, ◌-◌, ◌≤◌, length}
use Rattle.mp_tree.specs.Planning.{clear_from, clear_pages}
use Rattle.mp_tree.proofs.clear.count_clear.Given as goal

abbrev pub invariant-loop-page : goal.invariant-loop-page
invariant-loop-page l = record {
  rest : l.count + length (clear_from (4096 - l.page) l.page l.meta.bits) ≡ length (clear_pages l.meta);
  few : l.count ≤ l.page;
}
