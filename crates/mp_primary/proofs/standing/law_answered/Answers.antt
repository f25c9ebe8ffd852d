use Rattle.mp_primary.proofs.AllAnswered.{all_answered, no_task_no_line}
use Rattle.mp_primary.proofs.standing.law_answered.Goals as goal

pub returns-clause-in_order : goal.returns-clause-in_order
returns-clause-in_order g c = λ pr is. is.book.placed

pub returns-clause-none_left : goal.returns-clause-none_left
returns-clause-none_left g c = λ pr session is through below on. all_answered pr.work.lines pr.work.sessions pr.number pr.book is.book through session below on

pub returns-clause-through : goal.returns-clause-through
returns-clause-through g c = λ sessions none. no_task_no_line sessions none
