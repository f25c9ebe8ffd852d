-- Operation by operation.
use Rattle.mp_histories.specs.Histories.{by_version}
use Rattle.mp_histories.specs.KeyOps.{live}
use Rattle.mp_histories.proofs.Live.{spared, together_live, whole_group}
use Rattle.mp_histories.proofs.versions.law_live.Goals as goal

pub returns-clause-stays : goal.returns-clause-stays
returns-clause-stays c = λ writer later earlier v own spares. spared by_version writer later v earlier own spares

pub returns-clause-together : goal.returns-clause-together
returns-clause-together c = together_live by_version

pub returns-clause-whole : goal.returns-clause-whole
returns-clause-whole c = λ ops orderly. whole_group by_version (live by_version ops) (together_live by_version ops orderly)
