-- A cell's fault is the first of all, and without one the rest goes on.
use Rattle.std.proofs.Common.{sym, ◌∙◌}
use Rattle.mp_page.proofs.Steps.{next_rest, undo_stops, undo_next}
use Rattle.mp_page.proofs.reading.undo_fault.Goals as goal

pub returns-then-not-is_row_cell : goal.returns-then-not-is_row_cell
returns-then-not-is_row_cell c = c.fault.ensures ∙ undo_stops c.args.count c.loop-i.i c.loop-i.rest.now _ c.loop-i-test.true (sym c.is_row_cell.ensures ∙ c.if-not-is_row_cell.true) c.loop-i.invariant.faults

pub loop-i-preserved : goal.loop-i-preserved
loop-i-preserved c = record {
  rest = c.split_at.ensures.back ∙ next_rest 64 c.loop-i.i c.args.cells.now c.loop-i.rest.now c.loop-i.invariant.rest;
  faults = undo_next c.args.count c.loop-i.i c.loop-i.rest.now c.split_at.result.1.now _ c.loop-i-test.true (sym c.is_row_cell.ensures ∙ c.if-not-is_row_cell.false) c.split_at.ensures.back c.loop-i.invariant.faults;
}
