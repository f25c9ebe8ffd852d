-- Disk by disk.
use Rattle.std.proofs.Common.{◌≡◌, ℕ, ◌+◌, List, length, sym, subst, ◌∙◌, ap, arith}
use Rattle.mp_log.specs.Tails.{LogView}
use Rattle.mp_opening.specs.OpeningLogs.{OpensFirst, TakesOut}
use Rattle.mp_opening.proofs.OpenedLogs.{takes_more, takes_count, takes_all, length_last}
use Rattle.mp_opening.proofs.logs.open_each.Goals as goal

pub open_first-requires : goal.open_first-requires
open_first-requires g c =
    let inv = c.loop-place.invariant in
    let count = takes_count g.D.Disk c.args.disks.now.items c.loop-place.disks.items c.loop-place.logs.items inv.0 in
    record { some = omega (arith, count, inv.1, c.requires.eight, c.loop-place-test.true) }

pub loop-place-preserved : goal.loop-place-preserved
loop-place-preserved g c =
    let inv = c.loop-place.invariant in
    let old = c.args.disks.now.items in
    let logs = c.loop-place.logs.items in
    let more = c.push_reserved.ensures.items in
    let count : length c.push_reserved.new.self.items ≡ length logs + 1 = ap (λ (ls : List _). length ls) more ∙ length_last logs c.in-Ok.log in (
      subst (λ (ls : List _). TakesOut g.D.Disk old c.open_first.new.disks.items ls) (sym {A = List (LogView _)} more)
          (takes_more g.D.Disk old c.loop-place.disks.items c.open_first.new.disks.items logs c.in-Ok.log inv.0
          (subst (λ (n : ℕ). OpensFirst g.D.Disk n c.loop-place.disks.items c.open_first.new.disks.items c.in-Ok.log) (omega (arith, inv.1)) c.in-Ok.ensures.opened)),
      omega (arith, count, inv.1),
      omega (arith, inv.2, c.push_reserved.ensures.capacity),
      omega (arith, inv.3, c.open_first.ensures.capacity),
    )

pub returns-clause-opened : goal.returns-clause-opened
returns-clause-opened g c =
    let inv = c.loop-place.invariant in
    (takes_all g.D.Disk c.args.disks.now.items c.loop-place.disks.items c.loop-place.logs.items inv.0 (omega (arith, inv.1, c.requires.eight, c.loop-place-test.false, c.loop-place.auto.place-end))).1

pub returns-clause-emptied : goal.returns-clause-emptied
returns-clause-emptied g c =
    let inv = c.loop-place.invariant in
    (takes_all g.D.Disk c.args.disks.now.items c.loop-place.disks.items c.loop-place.logs.items inv.0 (omega (arith, inv.1, c.requires.eight, c.loop-place-test.false, c.loop-place.auto.place-end))).0
