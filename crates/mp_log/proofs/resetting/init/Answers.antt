-- One call, and two more.
use Rattle.std.proofs.Common.{arith}
use Rattle.mp_gated.proofs.Behind.{CallsMade-trans}
use Rattle.mp_log.proofs.resetting.init.Goals as goal

pub returns-clause-calls : goal.returns-clause-calls
returns-clause-calls g c =
    CallsMade-trans {first = 1} (record { made = 1; some = omega arith; within = omega arith; counted = c.in_ok-cut.ensures.calls }) c.write_safely.ensures.calls
