-- No header is open until the last step, and then the pages are whole.
use Rattle.std.proofs.Common.{inl, ℕ, List, IsTrue, subst}
use Rattle.mp_outside.specs.Disks.{Only}
use Rattle.mp_store.proofs.FreshImages.{zeros_kept}
use Rattle.mp_store.proofs.fresh.fill.Goals as goal

pub returns-in_err-write_bodies-clause-left : goal.returns-in_err-write_bodies-clause-left
returns-in_err-write_bodies-clause-left g c = λ tells. λ was. λ only. λ image. λ left.
    let all = zeros_kept (g.D.Disk.seen c.args.disk.now) (g.D.Disk.image c.args.disk.now) was only in
    inl ((c.in_err-write_bodies.ensures.kept tells all).images image left).0

pub returns-in_err-open_pages-clause-left : goal.returns-in_err-open_pages-clause-left
returns-in_err-open_pages-clause-left g c = λ tells. λ was. λ only. λ image. λ left.
    let all = zeros_kept (g.D.Disk.seen c.args.disk.now) (g.D.Disk.image c.args.disk.now) was only in
    let told : IsTrue (g.D.Disk.tells c.write_bodies.new.disk) = rw (c.in_ok-write_bodies.ensures.tells) tells in
    inl ((c.in_err-open_pages.ensures.kept told (c.in_ok-write_bodies.ensures.kept tells all)).images image left).0

pub returns-clause-left : goal.returns-clause-left
returns-clause-left g c = λ tells. λ was. λ only. λ image. λ left.
    let all = zeros_kept (g.D.Disk.seen c.args.disk.now) (g.D.Disk.image c.args.disk.now) was only in
    let told : IsTrue (g.D.Disk.tells c.write_bodies.new.disk) = rw (c.in_ok-write_bodies.ensures.tells) tells in
    let told' : IsTrue (g.D.Disk.tells c.open_pages.new.disk) = rw (c.in_ok-open_pages.ensures.tells) told in
    let is = c.in_ok-open_pages.ensures.done told (c.in_ok-write_bodies.ensures.done tells was) in
    let only' = subst (λ (f : List ℕ). Only f (g.D.Disk.image c.open_pages.new.disk)) is (c.in_ok-open_pages.ensures.safe told) in
    c.open_header.ensures.left told' is only' (c.in_ok-open_pages.ensures.kept told (c.in_ok-write_bodies.ensures.kept tells all)) image left
