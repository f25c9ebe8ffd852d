-- Mtr by mtr of the cut.
use Rattle.mp_histories.proofs.PageLlsns.{cut_prevs}
use Rattle.mp_histories.specs.Commits.{HasStamp}
use Rattle.mp_histories.proofs.Cutting.{cut_runs, cut_fits}
use Rattle.mp_histories.proofs.cuts.law_cuts.Goals as goal

pub returns-clause-runs : goal.returns-clause-runs
returns-clause-runs c = λ base opening made cut clean runs is_cut. cut_runs base opening clean made runs cut is_cut

pub returns-clause-fits : goal.returns-clause-fits
returns-clause-fits c = λ base opening made cut committed drew key clean runs is_cut fit. cut_fits base opening clean made runs (HasStamp committed) (HasStamp drew) key fit cut is_cut

pub returns-clause-prevs : goal.returns-clause-prevs
returns-clause-prevs c = λ opening made cut is_cut prevs. cut_prevs opening made prevs cut is_cut
