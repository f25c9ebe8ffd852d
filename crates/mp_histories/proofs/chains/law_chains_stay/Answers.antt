-- Each mtr leaves all undo records.
use Rattle.std.proofs.Common.{refl}
use Rattle.mp_histories.specs.Chains.{row_over}
use Rattle.mp_histories.proofs.ChainFacts.{walk_sees}
use Rattle.std.proofs.Common.{◌++◌}
use Rattle.mp_cells.specs.Writes.{undo_at}
use Rattle.mp_histories.specs.Histories.{pages_after}
use Rattle.mp_histories.proofs.ChainFacts.{chain_more, chain_one}
use Rattle.mp_histories.proofs.Standing.{undo_stays}
use Rattle.mp_histories.proofs.chains.law_chains_stay.Goals as goal

pub returns-clause-undo : goal.returns-clause-undo
returns-clause-undo c = λ base opening newer made link row clean runs. undo_stays base opening clean newer made runs link row

pub returns-clause-chain : goal.returns-clause-chain
returns-clause-chain c = λ base opening newer made rows last clean runs. chain_more (undo_at (pages_after opening made)) (undo_at (pages_after opening (newer ++ made))) (undo_stays base opening clean newer made runs) rows last

pub returns-clause-one : goal.returns-clause-one
returns-clause-one c = λ undo rows others last other a b e. (chain_one undo rows others last other a b e).rows

pub returns-clause-one_last : goal.returns-clause-one_last
returns-clause-one_last c = λ undo rows others last other a b e. (chain_one undo rows others last other a b e).end

pub returns-clause-walk : goal.returns-clause-walk
returns-clause-walk c = λ undo rows walked last chain walk. let seen = walk_sees undo rows last (row_over rows last) walked chain refl walk in (seen.rest, seen.sees)
