-- A key has a row where a row has the key.
use Rattle.std.proofs.Common.{Option, ap, ◌∙◌}
use Rattle.std.specs.Prelude.{is_some}
use Rattle.mp_cells.specs.declared.rows.Row.{Row}
use Rattle.mp_tree.proofs.PageFacts.{held_row}
use Rattle.mp_tree.proofs.leaf.holds_key.Goals as goal

pub returns : goal.returns
returns c = c.is_some.ensures ∙ ap (λ (row : Option Row). is_some row) c.row_in.ensures.value ∙ held_row c.args.key c.args.page.now.rows
