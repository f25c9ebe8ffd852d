-- the cells so far have no fault, so the first fault of all is that of the rest
use Rattle.std.proofs.Common.{◌≡◌, ◌+◌, ◌-◌, ◌*◌, drop}
use Rattle.mp_page.specs.Grammar.{undo_fault}
use Rattle.mp_page.proofs.reading.undo_fault.Given as goal

abbrev pub invariant-loop-i : goal.invariant-loop-i
invariant-loop-i l = record {
  rest : l.rest ≡ drop (64 * l.i) l.cells;
  faults : undo_fault (l.count - l.i) (32 + 64 * l.i) l.rest ≡ undo_fault l.count 32 l.cells;
}
