-- Each by the answer that breaks the rule.
use Rattle.std.proofs.Common.{[], arith, ◌≡◌, refl}
use Rattle.mp_script.specs.WorkedParts.{nothing_over, rows_in_order}
use Rattle.mp_script.proofs.Tested.{tested_legal}
use Rattle.mp_script.proofs.worked.law_worked_parts.Goals as goal

pub returns-clause-rows_ascend : goal.returns-clause-rows_ascend
returns-clause-rows_ascend c = tested_legal (nothing_over rows_in_order 0) [] (record { base = refl; rows = (omega arith, (omega arith, tt)); parts = refl }) tt refl tt tt refl

pub returns-clause-one_left : goal.returns-clause-one_left
returns-clause-one_left c = λ each. let e : 2 ≡ 3 = each.none_left.0 2 refl in omega (arith, e)
