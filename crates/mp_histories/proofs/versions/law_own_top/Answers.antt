-- By the last operation.
use Rattle.mp_histories.specs.Histories.{by_version}
use Rattle.mp_histories.specs.Commits.{HasStamp}
use Rattle.mp_histories.proofs.OwnRuns.{own_run, run_top}
use Rattle.mp_histories.proofs.versions.law_own_top.Goals as goal

pub returns-clause-run : goal.returns-clause-run
returns-clause-run c = λ committed drew writer ops v stamps unlisted fit keeps. own_run by_version (HasStamp committed) (HasStamp drew) stamps writer unlisted ops v fit keeps

pub returns-clause-top : goal.returns-clause-top
returns-clause-top c = run_top by_version
