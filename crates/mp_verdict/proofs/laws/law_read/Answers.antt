use Rattle.mp_verdict.proofs.Reading.{read_shows}
use Rattle.mp_verdict.proofs.laws.law_read.Goals as goal

pub returns : goal.returns
returns c = λ o w pages reader view key found fit facts sees. read_shows o w fit facts pages reader view key found sees
