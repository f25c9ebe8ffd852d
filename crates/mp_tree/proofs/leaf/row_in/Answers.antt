-- The row has the key, or the row is among those behind it.
use Rattle.std.proofs.Common.{sym, ◌∙◌, arith}
use Rattle.mp_tree.proofs.PageFacts.{row_here, row_later}
use Rattle.mp_tree.proofs.leaf.row_in.Goals as goal

pub returns-then-row-key-clause-value : goal.returns-then-row-key-clause-value
returns-then-row-key-clause-value c = sym (row_here c.args.key c.args.page.now.rows c.loop-i.i c.row-row.result c.row-row.ensures.value (omega arith)) ∙ c.loop-i.invariant.rest

pub loop-i-preserved : goal.loop-i-preserved
loop-i-preserved c = record {
  rest = sym (row_later c.args.key c.args.page.now.rows c.loop-i.i c.row-row.result c.row-row.ensures.value (omega arith)) ∙ c.loop-i.invariant.rest;
  count = c.loop-i.invariant.count;
}
