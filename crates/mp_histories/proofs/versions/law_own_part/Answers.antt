-- Operation by operation.
use Rattle.mp_histories.specs.Histories.{by_version}
use Rattle.mp_histories.proofs.OwnParts.{marked_all, keeps_own, run_own}
use Rattle.mp_histories.proofs.versions.law_own_part.Goals as goal

pub returns-clause-all : goal.returns-clause-all
returns-clause-all c = marked_all

pub returns-clause-keeps : goal.returns-clause-keeps
returns-clause-keeps c = keeps_own by_version

pub returns-clause-run : goal.returns-clause-run
returns-clause-run c = run_own by_version
