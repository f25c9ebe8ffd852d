-- the cells so far, and those that the rest are read as
use Rattle.std.proofs.Common.{◌≡◌, ◌-◌, ◌*◌, ◌++◌, length, drop}
use Rattle.mp_page.specs.Grammar.{children_of}
use Rattle.mp_page.proofs.reading.children_of.Given as goal

abbrev pub invariant-loop : goal.invariant-loop
invariant-loop l = record {
  count : length l.children ≡ l.counter;
  rest : l.rest ≡ drop (8 * l.counter) l.cells;
  cells : l.children ++ children_of (l.count - l.counter) l.rest ≡ children_of l.count l.cells;
}
