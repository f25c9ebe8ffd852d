-- A cell's fault is the first of all, and without one the rest goes on.
use Rattle.std.proofs.Common.{sym, ◌∙◌, arith}
use Rattle.mp_cells.specs.ChildCell.{is_child_cell}
use Rattle.mp_page.proofs.Steps.{next_rest, keyed_stops, keyed_next}
use Rattle.mp_page.proofs.reading.children_fault.Goals as goal

pub returns-in-Some : goal.returns-in-Some
returns-in-Some c = keyed_stops is_child_cell 8 c.args.low c.args.high c.args.count c.loop-i.i c.loop-i.least c.loop-i.rest.now c.in-Some.fault c.is_child_cell.result c.from-key.result _ c.loop-i-test.true c.is_child_cell.ensures (c.from-key.ensures ∙ c.u32_at.ensures) c.in-Some.ensures c.loop-i.invariant.faults

pub loop-i-preserved : goal.loop-i-preserved
loop-i-preserved c = record {
  rest = c.split_at.ensures.back ∙ next_rest 8 c.loop-i.i c.args.cells.now c.loop-i.rest.now c.loop-i.invariant.rest;
  faults = keyed_next is_child_cell 8 c.args.low c.args.high c.args.count c.loop-i.i c.loop-i.least c.loop-i.rest.now c.split_at.result.1.now c.is_child_cell.result c.from-key.result _ c.loop-i-test.true c.is_child_cell.ensures (c.from-key.ensures ∙ c.u32_at.ensures) (sym c.in_default.is ∙ c.cell_fault.ensures) c.split_at.ensures.back c.loop-i.invariant.faults;
  least = omega arith;
}
