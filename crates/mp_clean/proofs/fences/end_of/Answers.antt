use Rattle.std.proofs.Common.{◌+◌, sym, ◌∙◌}
use Rattle.mp_clean.proofs.Cells.{ends_at_next}
use Rattle.mp_clean.proofs.fences.end_of.Goals as goal

pub returns-then-i-count : goal.returns-then-i-count
returns-then-i-count c = c.from.ensures ∙ sym (ends_at_next c.args.page.now.children (c.args.i + 1) c.child.result c.args.page.now.high c.child.ensures.value)
