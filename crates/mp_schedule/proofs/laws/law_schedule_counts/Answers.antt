use Rattle.mp_schedule.proofs.Counting.{left_over, left_waiting, free_waiting, left_forgotten}
use Rattle.mp_schedule.proofs.laws.law_schedule_counts.Goals as goal

pub returns-clause-over : goal.returns-clause-over
returns-clause-over c = left_over

pub returns-clause-waiting : goal.returns-clause-waiting
returns-clause-waiting c = left_waiting

pub returns-clause-no_more_free : goal.returns-clause-no_more_free
returns-clause-no_more_free c = free_waiting

pub returns-clause-forgotten : goal.returns-clause-forgotten
returns-clause-forgotten c = left_forgotten
