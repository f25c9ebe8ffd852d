-- Only a gate that isn't closed is written.
use Rattle.std.proofs.Common.{IsTrue, [], sym, ap, subst, ◌∙◌, arith}
use Rattle.mp_gated.proofs.Behind.{CallsMade-trans}
use Rattle.mp_log.specs.Logs.{IsText, is_closed_gate}
use Rattle.mp_log.proofs.Emptied.{begins_closed, begins_open, first_torn}
use Rattle.mp_log.proofs.resetting.close_first.Goals as goal

pub returns-clause-either : goal.returns-clause-either
returns-clause-either g c = λ batches tells holds left is_left.
    let seen = g.D.Disk.seen c.args.disk.now in
    let tells' : IsTrue (g.D.Disk.tells c.first_byte.new.disk) = rw c.in_ok-first_byte.ensures.tells tells in
    let reads = holds seen (g.D.Disk.seen_is_image c.args.disk.now tells) in
    let from = c.write_at.ensures.images tells' left is_left in
    first_torn batches _ seen from.0 left reads (begins_open seen (ap is_closed_gate (c.in_ok-first_byte.ensures.byte tells) ∙ sym c.is_closed.ensures ∙ c.if-is_closed.false)) (holds from.0 (c.in_ok-first_byte.ensures.quiet.no_new from.0 from.1)) from.2

pub returns-then-is_closed-clause-closed : goal.returns-then-is_closed-clause-closed
returns-then-is_closed-clause-closed g c = λ tells.
    let closed = ap is_closed_gate (c.in_ok-first_byte.ensures.byte tells) ∙ sym c.is_closed.ensures ∙ c.if-is_closed.true in
    subst (IsText []) (sym c.in_ok-first_byte.ensures.quiet.same) (begins_closed (g.D.Disk.seen c.args.disk.now) closed)

pub returns-clause-calls : goal.returns-clause-calls
returns-clause-calls g c = CallsMade-trans {second = 1} c.in_ok-first_byte.ensures.calls (record { made = 1; some = omega arith; within = omega arith; counted = c.write_at.ensures.calls })
