-- those so far aren't above it
use Rattle.std.proofs.Common.{◌≡◌, drop}
use Rattle.mp_log.specs.Opening.{first_above}
use Rattle.mp_log.proofs.log.Log.first_above.Given as goal

abbrev pub invariant-loop-other : goal.invariant-loop-other
invariant-loop-other g l = first_above l.llsn (drop l.other-index l.fn.self.llsns) ≡ first_above l.llsn l.fn.self.llsns
