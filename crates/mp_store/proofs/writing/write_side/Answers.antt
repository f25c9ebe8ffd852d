-- Closing and then writing leaves what each of them leaves.
use Rattle.std.proofs.Common.{◌≡◌, ℕ, ◌<◌, List, IsTrue, length, ap, subst, arith, ◌∙◌}
use Rattle.std.proofs.lemmas.Result.{on_ok_weaker}
use Rattle.mp_outside.specs.Disks.{written, Only}
use Rattle.mp_store.specs.SideWrites.{open_side, closed}
use Rattle.mp_store.proofs.WrittenSides.{closed_outside, closing_left, gating_left, side_over}
use Rattle.mp_store.proofs.writing.write_side.Goals as goal

pub returns-in_err-close-clause-images : goal.returns-in_err-close-clause-images
returns-in_err-close-clause-images g c = λ tells. λ only. λ room. λ was. λ image. λ left.
    closing_left c.args.was_open c.args.place c.args.body.now (g.D.Disk.seen c.args.disk.now) image room was (c.in_err-close.ensures.images tells only (omega arith) image left)

pub returns-clause-done : goal.returns-clause-done
returns-clause-done g c = λ tells. λ room.
    let file = g.D.Disk.seen c.args.disk.now in
    let place = c.args.place in
    let shut : g.D.Disk.seen c.close.new.disk ≡ closed c.args.was_open place file = c.in_ok-close.ensures.closes tells in
    let tells' : IsTrue (g.D.Disk.tells c.close.new.disk) = rw (c.in_ok-close.ensures.tells) tells in
    let lt : place < length (g.D.Disk.seen c.close.new.disk) = omega (arith, ap length shut, (closed_outside c.args.was_open place file (omega arith)).long) in
    on_ok_weaker c.write_gated.result (λ is. is ∙ ap (written place (open_side c.args.body.now)) shut ∙ side_over c.args.was_open place c.args.body.now file room) (c.write_gated.ensures.done tells' lt)

pub returns-clause-safe : goal.returns-clause-safe
returns-clause-safe g c = λ tells. λ only. λ room.
    let file = g.D.Disk.seen c.args.disk.now in
    let place = c.args.place in
    let shut : g.D.Disk.seen c.close.new.disk ≡ closed c.args.was_open place file = c.in_ok-close.ensures.closes tells in
    let tells' : IsTrue (g.D.Disk.tells c.close.new.disk) = rw (c.in_ok-close.ensures.tells) tells in
    let lt : place < length (g.D.Disk.seen c.close.new.disk) = omega (arith, ap length shut, (closed_outside c.args.was_open place file (omega arith)).long) in
    let is = ap (written place (open_side c.args.body.now)) shut ∙ side_over c.args.was_open place c.args.body.now file room in
    on_ok_weaker c.write_gated.result (λ all. subst (λ (f : List ℕ). Only f (g.D.Disk.image c.write_gated.new.disk)) is all) (c.write_gated.ensures.safe tells' lt)

pub returns-clause-images : goal.returns-clause-images
returns-clause-images g c = λ tells. λ only. λ room. λ was. λ image. λ left.
    let file = g.D.Disk.seen c.args.disk.now in
    let place = c.args.place in
    let shut : g.D.Disk.seen c.close.new.disk ≡ closed c.args.was_open place file = c.in_ok-close.ensures.closes tells in
    let tells' : IsTrue (g.D.Disk.tells c.close.new.disk) = rw (c.in_ok-close.ensures.tells) tells in
    let lt : place < length (g.D.Disk.seen c.close.new.disk) = omega (arith, ap length shut, (closed_outside c.args.was_open place file (omega arith)).long) in
    gating_left c.args.was_open place c.args.body.now file image (g.D.Disk.image c.close.new.disk) room was (c.in_ok-close.ensures.safe tells only) (rw shut at (c.write_gated.ensures.images tells' lt image left))
