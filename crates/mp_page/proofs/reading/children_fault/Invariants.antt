-- the cells so far have no fault, so the first fault of all is that of the rest
use Rattle.std.proofs.Common.{◌≡◌, ◌+◌, ◌-◌, ◌*◌, ◌≤◌, ◌^◌, drop}
use Rattle.mp_cells.specs.ChildCell.{is_child_cell}
use Rattle.mp_page.specs.Grammar.{keyed_fault}
use Rattle.mp_page.proofs.reading.children_fault.Given as goal

abbrev pub invariant-loop-i : goal.invariant-loop-i
invariant-loop-i l = record {
  rest : l.rest ≡ drop (8 * l.i) l.cells;
  faults : keyed_fault is_child_cell 8 l.low l.high (l.count - l.i) (32 + 8 * l.i) l.least l.rest ≡ keyed_fault is_child_cell 8 l.low l.high l.count 32 0 l.cells;
  least : l.least ≤ 2 ^ 32;
}
