-- The next child is above the key, or takes the place of the one so far.
use Rattle.std.proofs.Common.{sym, ◌∙◌, arith}
use Rattle.mp_clean.proofs.Cells.{child_here, child_later}
use Rattle.mp_clean.proofs.reading.child_among.Goals as goal

pub returns-then-key-from : goal.returns-then-key-from
returns-then-key-from c = sym (child_here c.args.key c.args.page.now.children c.loop-i.i c.loop-i.child c.child-next.result c.child-next.ensures.value (omega arith)) ∙ c.loop-i.invariant.rest

pub loop-i-preserved : goal.loop-i-preserved
loop-i-preserved c = record {
  rest = sym (child_later c.args.key c.args.page.now.children c.loop-i.i c.loop-i.child c.child-next.result c.child-next.ensures.value (omega arith)) ∙ c.loop-i.invariant.rest;
  count = c.loop-i.invariant.count;
}
