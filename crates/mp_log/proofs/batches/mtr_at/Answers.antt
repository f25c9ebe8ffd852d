-- What is decoded is what the bytes are read as.
use Rattle.std.proofs.Common.{ap}
use Rattle.mp_log.specs.Reading.{from_place}
use Rattle.mp_log.proofs.Checked.{decoded}
use Rattle.mp_log.proofs.batches.mtr_at.Goals as goal

pub returns-in-Ok-clause-exact : goal.returns-in-Ok-clause-exact
returns-in-Ok-clause-exact c =
    let d = decoded c.args.bytes.now c.in-Ok.found.0 c.in-Ok.found.1 c.in-Ok.ensures.found.0 c.in-Ok.ensures.found.1 in
    ap (from_place c.args.place) d.0
