-- Change by change.
use Rattle.std.proofs.Common.{◌∙◌}
use Rattle.mp_tree.proofs.PlanSize.{write_most, restore_is}
use Rattle.mp_tree.proofs.laws.law_plan_size.Goals as goal

pub returns-clause-write : goal.returns-clause-write
returns-clause-write c = λ given height write undo_page kind plan mtr is sound records. write_most _ _ _ _ _ _ _ _ _ mtr sound (records ∙ is.exact)

pub returns-clause-restore : goal.returns-clause-restore
returns-clause-restore c = λ given row plan mtr well sound records. restore_is well.one.0 row mtr sound (records ∙ well.one.1)
