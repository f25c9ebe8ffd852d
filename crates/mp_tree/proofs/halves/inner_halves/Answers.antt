-- The right part is all the rest.
use Rattle.std.proofs.Common.{◌∙◌}
use Rattle.mp_tree.proofs.PageFacts.{taken_rest}
use Rattle.mp_tree.proofs.halves.inner_halves.Goals as goal

pub returns-clause-right : goal.returns-clause-right
returns-clause-right c = c.children_of-2.ensures ∙ taken_rest c.args.page.now.children 62 124 c.requires.full
