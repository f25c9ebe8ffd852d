-- The row has a writer, or leaves the test to those behind it.
use Rattle.std.proofs.Common.{sym, ◌∙◌}
use Rattle.mp_clean.proofs.Cells.{row_written, row_unwritten}
use Rattle.mp_clean.proofs.reading.are_unwritten.Goals as goal

pub returns-then-is_some : goal.returns-then-is_some
returns-then-is_some c = sym (row_written c.args.page.now.rows c.loop-i.i c.row.result c.row.ensures.value (sym c.is_some.ensures ∙ c.if-is_some.true)) ∙ c.loop-i.invariant.rest

pub loop-i-preserved : goal.loop-i-preserved
loop-i-preserved c = record {
  rest = sym (row_unwritten c.args.page.now.rows c.loop-i.i c.row.result c.row.ensures.value (sym c.is_some.ensures ∙ c.if-is_some.false)) ∙ c.loop-i.invariant.rest;
  count = c.loop-i.invariant.count;
}
