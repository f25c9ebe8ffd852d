use Rattle.std.proofs.Common.{Bool, Option, None, Some, if◌then◌else◌, ap}
use Rattle.mp_cells.specs.declared.rows.Row.{Row}
use Rattle.mp_primary.proofs.primary.Primary.first_of.Goals as goal

abbrev by_test : Row → Bool → Option Row
by_test former b = if b then None else Some former

pub returns-then-has_former : goal.returns-then-has_former
returns-then-has_former g c = λ s found. ap (by_test c.args.former) (c.if-has_former.ensures s found)

pub returns-else-has_former : goal.returns-else-has_former
returns-else-has_former g c = λ s found. ap (by_test c.args.former) (c.if-has_former.ensures s found)
