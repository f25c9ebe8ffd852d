-- The right part is all the rest.
use Rattle.std.proofs.Common.{◌∙◌}
use Rattle.mp_tree.proofs.PageFacts.{taken_rest}
use Rattle.mp_tree.proofs.halves.leaf_halves.Goals as goal

pub returns-clause-right : goal.returns-clause-right
returns-clause-right c = c.rows_of-2.ensures ∙ taken_rest c.args.page.now.rows 8 15 c.requires.full
