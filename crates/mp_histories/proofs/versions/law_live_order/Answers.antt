-- Operation by operation.
use Rattle.mp_histories.specs.Histories.{by_version}
use Rattle.mp_histories.specs.Commits.{HasStamp}
use Rattle.mp_histories.proofs.Falling.{live_falls, fit_orderly}
use Rattle.mp_histories.proofs.MoreStamps.{fits_more}
use Rattle.mp_histories.proofs.versions.law_live_order.Goals as goal

pub returns-clause-orderly : goal.returns-clause-orderly
returns-clause-orderly c = λ committed drew ops stamps fit. fit_orderly by_version (HasStamp committed) (HasStamp drew) stamps ops fit

pub returns-clause-falls : goal.returns-clause-falls
returns-clause-falls c = λ committed drew ops fit. live_falls by_version (HasStamp committed) (HasStamp drew) ops fit

pub returns-clause-more : goal.returns-clause-more
returns-clause-more c = λ committed drew committed_now drew_now ops more above fit. fits_more (HasStamp committed) (HasStamp drew) (HasStamp committed_now) (HasStamp drew_now) more above by_version ops fit
