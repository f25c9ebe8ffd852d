-- The first cell of the right part.
use Rattle.mp_cells.specs.declared.rows.Row.{Row}
use Rattle.mp_tree.proofs.PageFacts.{first_at}
use Rattle.mp_tree.proofs.halves.leaf_separator.Goals as goal

pub returns : goal.returns
returns c = first_at (λ (x : Row). x.key) c.args.page.now.rows 8 c.row.result c.row.ensures.value
