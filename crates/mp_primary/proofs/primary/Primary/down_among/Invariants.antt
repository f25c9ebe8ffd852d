use Rattle.mp_primary.specs.Tries.{HasTried}
use Rattle.mp_primary.proofs.Lookings.{AreUpBelow}
use Rattle.mp_primary.proofs.primary.Primary.down_among.Given as goal

abbrev pub invariant-loop-of : goal.invariant-loop-of
invariant-loop-of g l = HasTried g.D.Disk l.shared l.self l.node × AreUpBelow l.self l.cause l.initial.node l.node l.of
