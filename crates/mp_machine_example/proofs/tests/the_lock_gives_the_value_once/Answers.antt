use Rattle.std.proofs.Common.{ap, arith}
use Rattle.mp_machine.specs.View.{part_in}
use Rattle.mp_machine_example.specs.Numbers.{new_worker}
use Rattle.mp_machine_example.proofs.Calls.{has_unlock}
use Rattle.mp_machine_example.proofs.tests.the_lock_gives_the_value_once.Goals as goal

pub lock-requires-clause-worker : goal.lock-requires-clause-worker
lock-requires-clause-worker g c = (omega arith, (new_worker, ap (λ me. part_in me.0 0) c.in_ok-desk.ensures.1))

pub unlock-requires-clause-worker : goal.unlock-requires-clause-worker
unlock-requires-clause-worker g c = has_unlock 0 c.in_ok-desk.seat.me 0 c.lock.new.seat.me (omega arith) (ap (λ me. me.1) c.in_ok-desk.ensures.1) c.in-Some.ensures.taken
