-- One cell more.
use Rattle.std.proofs.Common.{◌∷◌, [], ◌++◌, ap, ◌∙◌, arith}
use Rattle.mp_tree.proofs.PageFacts.{taken_next}
use Rattle.mp_tree.proofs.halves.children_of.Goals as goal

pub loop-i-preserved : goal.loop-i-preserved
loop-i-preserved c = (
  c.put.ensures ∙ ap (λ xs. xs ++ c.child.result ∷ []) c.loop-i.invariant.0 ∙ taken_next c.args.page.now.children c.args.from c.loop-i.i c.child.result c.loop-i.invariant.1 c.child.ensures.value,
  omega (arith, c.loop-i.invariant.1),
)
