-- Two calls, and two more.
use Rattle.mp_gated.proofs.Behind.{CallsMade-trans}
use Rattle.mp_gated.proofs.writing.write_gated.Goals as goal

pub returns-clause-calls : goal.returns-clause-calls
returns-clause-calls g c = CallsMade-trans c.write_safely.ensures.calls c.write_safely-2.ensures.calls
