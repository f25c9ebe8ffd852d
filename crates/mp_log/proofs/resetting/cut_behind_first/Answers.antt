-- After the first sync the file is the only image; each front of it begins with its first byte.
use Rattle.std.proofs.Common.{IsTrue, inr, subst, arith}
use Rattle.mp_outside.specs.Disks.{Cut}
use Rattle.mp_log.proofs.Emptied.{front_empty}
use Rattle.mp_log.proofs.resetting.cut_behind_first.Goals as goal

pub returns-in_err-cut-clause-either : goal.returns-in_err-cut-clause-either
returns-in_err-cut-clause-either g c = λ batches tells text holds left is_left.
    let seen = g.D.Disk.seen c.args.disk.now in
    let tells' : IsTrue (g.D.Disk.tells c.sync.new.self) = rw c.in_ok-sync.ensures.tells tells in
    let from = c.in_err-cut.ensures.images tells' left is_left in
    let same = c.in_ok-sync.ensures.safe tells from.0 from.1 in
    inr (front_empty seen left text (subst (λ d. Cut 1 d left) same from.2))

pub returns-clause-either : goal.returns-clause-either
returns-clause-either g c = λ batches tells text holds left is_left.
    let seen = g.D.Disk.seen c.args.disk.now in
    let tells' : IsTrue (g.D.Disk.tells c.sync.new.self) = rw c.in_ok-sync.ensures.tells tells in
    let from = c.in_ok-cut.ensures.images tells' left (c.sync-2.ensures.quiet.no_new left is_left) in
    let same = c.in_ok-sync.ensures.safe tells from.0 from.1 in
    inr (front_empty seen left text (subst (λ d. Cut 1 d left) same from.2))

pub returns-in_err-cut-clause-calls : goal.returns-in_err-cut-clause-calls
returns-in_err-cut-clause-calls g c = record { made = 2; some = omega arith; within = omega arith; counted = omega (arith, c.in_ok-sync.ensures.calls, c.in_err-cut.ensures.calls) }

pub returns-clause-calls : goal.returns-clause-calls
returns-clause-calls g c = record { made = 3; some = omega arith; within = omega arith; counted = omega (arith, c.in_ok-sync.ensures.calls, c.in_ok-cut.ensures.calls, c.sync-2.ensures.calls) }
