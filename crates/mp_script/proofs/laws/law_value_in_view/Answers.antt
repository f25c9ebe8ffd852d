use Rattle.mp_script.proofs.LastValues.{value_at-over}
use Rattle.mp_script.proofs.ViewValues.{value_in_view}
use Rattle.mp_script.proofs.laws.law_value_in_view.Goals as goal

pub returns-clause-over_rows : goal.returns-clause-over_rows
returns-clause-over_rows c = value_at-over

pub returns-clause-in_view : goal.returns-clause-in_view
returns-clause-in_view c = λ run key view above. value_in_view run above key view
