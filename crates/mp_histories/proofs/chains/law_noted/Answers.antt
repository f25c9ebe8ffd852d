-- By the first mtrs, and the undo records since.
use Rattle.mp_histories.proofs.Noting.{noted, noted_stays, older_first, length_older, older_stays, older_dropped}
use Rattle.mp_histories.proofs.chains.law_noted.Goals as goal

pub returns-clause-noted : goal.returns-clause-noted
returns-clause-noted c = λ base opening made height key clean runs. noted base opening clean made runs height key

pub returns-clause-stays : goal.returns-clause-stays
returns-clause-stays c = λ base opening noted_at now newer key row clean runs. noted_stays base opening clean noted_at now newer key row runs

pub returns-clause-first : goal.returns-clause-first
returns-clause-first c = λ height made. ((older_first height made).newer, (older_first height made).split_is)

pub returns-clause-count : goal.returns-clause-count
returns-clause-count c = length_older

pub returns-clause-older_stays : goal.returns-clause-older_stays
returns-clause-older_stays c = older_stays

pub returns-clause-dropped : goal.returns-clause-dropped
returns-clause-dropped c = older_dropped
