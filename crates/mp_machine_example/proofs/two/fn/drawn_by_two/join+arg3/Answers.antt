use Rattle.std.proofs.Common.{ap, arith}
use Rattle.mp_machine.specs.View.{part_in}
use Rattle.mp_machine_example.specs.Numbers.{new_worker}
use Rattle.mp_machine_example.proofs.two.fn.drawn_by_two.join+arg3.Goals as goal

pub draw_once-requires : goal.draw_once-requires
draw_once-requires c = record { table = c.requires.0; worker = (omega arith, (new_worker, ap (λ me. part_in me.0 1) c.requires.1, omega arith)) }
