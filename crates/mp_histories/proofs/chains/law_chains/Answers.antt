-- Mtr by mtr.
use Rattle.mp_histories.proofs.LiveRows.{places_fall}
use Rattle.mp_histories.proofs.CleanRows.{clean_plain, version_key}
use Rattle.mp_cells.specs.Trees.{rows_in}
use Rattle.mp_histories.proofs.Standing.{has_chains}
use Rattle.mp_histories.proofs.LiveRows.{live_put_at}
use Rattle.mp_histories.proofs.chains.law_chains.Goals as goal

pub returns-clause-chains : goal.returns-clause-chains
returns-clause-chains c = λ base opening made clean runs. has_chains base opening clean made runs

pub returns-clause-places : goal.returns-clause-places
returns-clause-places c = λ base opening made key clean runs. live_put_at base opening clean made runs key

pub returns-clause-last_writer : goal.returns-clause-last_writer
returns-clause-last_writer c = λ base opening key clean. (clean_plain base opening clean key).0

pub returns-clause-last_link : goal.returns-clause-last_link
returns-clause-last_link c = λ base opening key clean. (clean_plain base opening clean key).1

pub returns-clause-key : goal.returns-clause-key
returns-clause-key c = λ pages key. version_key key (rows_in pages)

pub returns-clause-order : goal.returns-clause-order
returns-clause-order c = λ base opening made key clean runs. places_fall base opening clean made runs key
