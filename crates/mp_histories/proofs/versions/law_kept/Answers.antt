-- Operation by operation; the newest versions fall.
use Rattle.mp_histories.proofs.Kept.{kept_last}
use Rattle.std.proofs.Common.{◌∷◌, ◌∙◌}
use Rattle.mp_histories.specs.Histories.{by_version}
use Rattle.mp_histories.specs.Commits.{HasStamp}
use Rattle.mp_histories.specs.KeyOps.{put}
use Rattle.mp_histories.proofs.Writers.{same_from}
use Rattle.mp_histories.proofs.Kept.{kept-same, kept_newest, kept_stays}
use Rattle.mp_histories.proofs.MoreStamps.{no_stamp, has_or_not}
use Rattle.mp_histories.proofs.CommitsStand.{stands_for}
use Rattle.mp_histories.proofs.versions.law_kept.Goals as goal

pub returns-clause-newest : goal.returns-clause-newest
returns-clause-newest c = kept_newest by_version

pub returns-clause-stays : goal.returns-clause-stays
returns-clause-stays c = kept_stays by_version

pub returns-clause-last : goal.returns-clause-last
returns-clause-last c = λ writer later earlier v own leaves. kept_stays by_version writer later (put v ∷ earlier) leaves ∙ kept-same by_version writer v earlier (same_from (by_version v) writer own)

pub returns-clause-stands : goal.returns-clause-stands
returns-clause-stands c = λ committed listed drew ops last stamps all drawn fit plain. stands_for by_version (HasStamp committed) (HasStamp listed) (HasStamp drew) stamps (record { all = all; drawn = drawn; no_writer = no_stamp listed; known = has_or_not listed }) ops fit last plain

pub returns-clause-never_back : goal.returns-clause-never_back
returns-clause-never_back c = kept_last by_version
