use Rattle.std.proofs.Common.{◌≡◌, None, Some, refl, sym}
use Rattle.mp_cells.specs.declared.rows.Row.{Row}
use Rattle.mp_book.specs.SmallBooks.{row_seven}
use Rattle.mp_book.proofs.Items.{none_some}
use Rattle.mp_book.proofs.examples.law_list_examples.Goals as goal

pub returns-clause-one_row_each : goal.returns-clause-one_row_each
returns-clause-one_row_each c = (refl, tt)

pub returns-clause-not_one_each : goal.returns-clause-not_one_each
returns-clause-not_one_each c = λ h. none_some row_seven (sym h.0)

pub returns-clause-row_more : goal.returns-clause-row_more
returns-clause-row_more c = refl

pub returns-clause-no_row_more : goal.returns-clause-no_row_more
returns-clause-no_row_more c = refl

pub returns-clause-keeps_first : goal.returns-clause-keeps_first
returns-clause-keeps_first c = (refl, refl)

pub returns-clause-keeps_no_second : goal.returns-clause-keeps_no_second
returns-clause-keeps_no_second c = λ h. none_some row_seven (sym h.1)

pub returns-clause-named : goal.returns-clause-named
returns-clause-named c = refl

pub returns-clause-not_named : goal.returns-clause-not_named
returns-clause-not_named c = refl

pub returns-clause-named_once : goal.returns-clause-named_once
returns-clause-named_once c = refl

pub returns-clause-named_first : goal.returns-clause-named_first
returns-clause-named_first c = refl
