-- Down the versions that stand.
use Rattle.mp_histories.specs.Histories.{by_version}
use Rattle.mp_histories.specs.Commits.{HasStamp}
use Rattle.mp_histories.proofs.Reading.{read_at}
use Rattle.mp_histories.proofs.versions.law_read.Goals as goal

pub returns : goal.returns
returns c = λ committed drew reader view ops found stamps unlisted fit takes. read_at by_version (HasStamp committed) (HasStamp drew) stamps reader view unlisted ops fit found takes
