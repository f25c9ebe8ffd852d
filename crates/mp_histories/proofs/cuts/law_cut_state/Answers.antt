-- The cut is a history of well-made mtrs itself.
use Rattle.mp_histories.proofs.Kept.{kept_last}
use Rattle.mp_histories.proofs.Cutting.{cut_never}
use Rattle.mp_histories.specs.Histories.{by_version}
use Rattle.mp_histories.specs.Commits.{HasStamp}
use Rattle.mp_histories.specs.Histories.{ops_on, commits_in}
use Rattle.mp_histories.specs.Chains.{row_of_key}
use Rattle.mp_histories.proofs.CleanRows.{clean_plain}
use Rattle.mp_histories.proofs.Standing.{has_chains}
use Rattle.mp_histories.proofs.MoreStamps.{no_stamp, has_or_not}
use Rattle.mp_histories.proofs.CommitsStand.{stands_for}
use Rattle.mp_histories.proofs.Cutting.{cut_runs, cut_fits}
use Rattle.mp_histories.proofs.cuts.law_cut_state.Goals as goal

pub returns-clause-chains : goal.returns-clause-chains
returns-clause-chains c = λ base opening made cut clean runs is_cut. has_chains base opening clean cut (cut_runs base opening clean made runs cut is_cut)

pub returns-clause-stands : goal.returns-clause-stands
returns-clause-stands c = λ base opening made cut committed drew key clean runs is_cut stamps all drawn fit.
    stands_for by_version (HasStamp committed) (HasStamp (commits_in cut)) (HasStamp drew) stamps
    (record { all = all; drawn = drawn; no_writer = no_stamp (commits_in cut); known = has_or_not (commits_in cut) })
    (ops_on key cut) (cut_fits base opening clean made runs (HasStamp committed) (HasStamp drew) key fit cut is_cut) (row_of_key opening key) (clean_plain base opening clean key).0

pub returns-clause-wrote : goal.returns-clause-wrote
returns-clause-wrote c = λ base opening made cut writer key clean runs is_cut never. kept_last by_version writer (ops_on key cut) (cut_never base opening clean made runs writer key never cut is_cut)
