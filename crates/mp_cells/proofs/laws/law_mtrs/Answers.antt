-- Page by page.
use Rattle.mp_cells.proofs.MtrPages.{mtr_content, mtr_touched, mtr_untouched, by_records}
use Rattle.mp_cells.proofs.laws.law_mtrs.Goals as goal

pub returns-clause-content : goal.returns-clause-content
returns-clause-content c = mtr_content

pub returns-clause-touched : goal.returns-clause-touched
returns-clause-touched c = mtr_touched

pub returns-clause-untouched : goal.returns-clause-untouched
returns-clause-untouched c = mtr_untouched

pub returns-clause-by_records : goal.returns-clause-by_records
returns-clause-by_records c = λ mtr pages n. by_records mtr.llsn mtr.records pages n
