use Rattle.std.proofs.Common.{refl, ap, ◌∙◌, arith}
use Rattle.mp_machine.specs.View.{part_in}
use Rattle.mp_machine_example.proofs.Calls.{both_drew}
use Rattle.mp_machine_example.proofs.two.drawn_by_two.Goals as goal

pub total-requires-clause-worker : goal.total-requires-clause-worker
total-requires-clause-worker g c =
    let one = c.join-seat.ensures.first.1 in
    let other = c.join-seat.ensures.second.1 in
    let both = both_drew one.0 other.0 _ c.join-seat.result.0.me _ c.join-seat.result.1.me refl refl one.1 other.1 in
    (omega arith, (both.0, ap (λ me. part_in me.0 0) c.join.ensures.seat.1 ∙ both.2))

pub returns : goal.returns
returns g c =
    let one = c.join-seat.ensures.first.1 in
    let other = c.join-seat.ensures.second.1 in
    let both = both_drew one.0 other.0 _ c.join-seat.result.0.me _ c.join-seat.result.1.me refl refl one.1 other.1 in
    let is = c.join.ensures.seat.1 in
    c.total.ensures.exact both.0 both.1 (ap (λ me. part_in me.0 0) is ∙ both.2) (ap (λ me. part_in me.0 1) is ∙ both.3) ∙ both.4
