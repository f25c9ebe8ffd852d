use Rattle.std.proofs.Common.{◌∙◌}
use Rattle.mp_primary.proofs.HeldKeys.{row_any}
use Rattle.mp_primary.proofs.holders.has_row_of.Goals as goal

pub returns : goal.returns
returns c = c.any_row_of.ensures ∙ row_any c.args.rows.now c.args.key
