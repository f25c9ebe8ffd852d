-- the cells so far, and those that the rest are read as
use Rattle.std.proofs.Common.{◌≡◌, ◌-◌, ◌*◌, ◌++◌, length, drop}
use Rattle.mp_page.specs.Grammar.{rows_of}
use Rattle.mp_page.proofs.reading.rows_of.Given as goal

abbrev pub invariant-loop : goal.invariant-loop
invariant-loop l = record {
  count : length l.rows ≡ l.counter;
  rest : l.rest ≡ drop (64 * l.counter) l.cells;
  cells : l.rows ++ rows_of (l.count - l.counter) l.rest ≡ rows_of l.count l.cells;
}
