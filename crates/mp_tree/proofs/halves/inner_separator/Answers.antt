-- The first cell of the right part.
use Rattle.mp_cells.specs.declared.children.Child.{Child}
use Rattle.mp_tree.proofs.PageFacts.{first_at}
use Rattle.mp_tree.proofs.halves.inner_separator.Goals as goal

pub returns : goal.returns
returns c = first_at (λ (x : Child). x.low) c.args.page.now.children 62 c.child.result c.child.ensures.value
