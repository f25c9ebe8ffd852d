use Rattle.mp_schedule.proofs.Counting.{sessions_first, sessions_on_primary, sessions_stand, sessions_forgotten}
use Rattle.mp_schedule.proofs.laws.law_schedule_sessions.Goals as goal

pub returns-clause-first : goal.returns-clause-first
returns-clause-first c = sessions_first

pub returns-clause-on : goal.returns-clause-on
returns-clause-on c = sessions_on_primary

pub returns-clause-stand : goal.returns-clause-stand
returns-clause-stand c = sessions_stand

pub returns-clause-forgotten : goal.returns-clause-forgotten
returns-clause-forgotten c = sessions_forgotten
