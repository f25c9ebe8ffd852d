-- The next child is above the key, or takes the place of the one so far.
use Rattle.std.proofs.Common.{sym, ◌∙◌, arith}
use Rattle.mp_tree.proofs.PageFacts.{child_here, child_later}
use Rattle.mp_tree.proofs.leaf.child_for.Goals as goal

pub returns-then-key-next-clause-child : goal.returns-then-key-next-clause-child
returns-then-key-next-clause-child c = sym (child_here c.args.key c.args.page.now.children c.loop-i.i c.loop-i.child c.child-next.result c.child-next.ensures.value (omega arith)) ∙ c.loop-i.invariant.rest

pub loop-i-preserved : goal.loop-i-preserved
loop-i-preserved c = record {
  rest = sym (child_later c.args.key c.args.page.now.children c.loop-i.i c.loop-i.child c.child-next.result c.child-next.ensures.value (omega arith)) ∙ c.loop-i.invariant.rest;
  count = c.loop-i.invariant.count;
  kept = c.child-next.ensures.kept;
}
