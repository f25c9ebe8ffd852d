-- Change by change.
use Rattle.mp_cells.proofs.Llsns.{applied-llsn, llsn_stays}
use Rattle.mp_cells.proofs.laws.law_changes_and_llsns.Goals as goal

pub returns-clause-same : goal.returns-clause-same
returns-clause-same c = applied-llsn

pub returns-clause-stays : goal.returns-clause-stays
returns-clause-stays c = llsn_stays
