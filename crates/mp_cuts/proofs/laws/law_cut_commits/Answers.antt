use Rattle.mp_cuts.proofs.Recoverable.{forced_kept, kept_recorded}
use Rattle.mp_cuts.proofs.laws.law_cut_commits.Goals as goal

pub returns-clause-forced : goal.returns-clause-forced
returns-clause-forced c = λ o w count id cts fair f valid forced. forced_kept o fair w f count valid id cts forced

pub returns-clause-recorded : goal.returns-clause-recorded
returns-clause-recorded c = λ o w count id cts fair f valid has. kept_recorded o fair w f count valid id cts has
