-- Log by log.
use Rattle.std.proofs.Common.{Ok, Err, refl, sym, subst, arith}
use Rattle.mp_files.specs.Nine.{seen_at}
use Rattle.mp_files.proofs.Nines.{KeptLogs-refl}
use Rattle.mp_recover.specs.Merging.{MergeCause}
use Rattle.mp_recover.specs.ReadingLogs.{RefusesFirst}
use Rattle.mp_recover.proofs.ReadingLogs.{read_kept, read_more, read_refuses, read_cause}
use Rattle.mp_recover.proofs.reading.read_logs.Goals as goal

pub loop-place-init : goal.loop-place-init
loop-place-init g c = (KeptLogs-refl g.D.Disk c.args.logs.now.items, λ tell place lt. absurd (omega (arith, lt)))

pub returns-in-Err-clause-kept : goal.returns-in-Err-clause-kept
returns-in-Err-clause-kept g c =
    let e = c.in-Err.ensures in let inv = c.loop-place.invariant in
    read_kept g.D.Disk c.args.logs.now.items c.loop-place.logs.items c.read_at.new.logs.items c.loop-place.place (Err c.in-Err.refusal) inv.0
    (omega (arith, inv.0.count, c.requires, c.loop-place-test.true)) e.count e.others e.did

pub returns-in-Err-clause-finds : goal.returns-in-Err-clause-finds
returns-in-Err-clause-finds g c = λ tell.
    let e = c.in-Err.ensures in let inv = c.loop-place.invariant in
    subst (RefusesFirst (seen_at g.D.Disk c.args.logs.now.items)) (sym c.refused_as.ensures)
    (read_refuses g.D.Disk c.args.logs.now.items c.loop-place.logs.items c.read_at.new.logs.items c.loop-place.place (Err c.in-Err.refusal) inv.0
    (omega (arith, inv.0.count, c.requires, c.loop-place-test.true)) e.count e.others e.did c.in-Err.refusal c.loop-place-test.true refl tell (inv.1 tell))

pub returns-in-Err-clause-cause : goal.returns-in-Err-clause-cause
returns-in-Err-clause-cause g c =
    let e = c.in-Err.ensures in let inv = c.loop-place.invariant in
    subst (MergeCause g.D.Disk c.args.logs.now.items c.read_at.new.logs.items) (sym c.refused_as.ensures)
    (read_cause g.D.Disk c.args.logs.now.items c.loop-place.logs.items c.read_at.new.logs.items c.loop-place.place (Err c.in-Err.refusal) inv.0
    (omega (arith, inv.0.count, c.requires, c.loop-place-test.true)) e.count e.others e.did c.in-Err.refusal refl)

pub loop-place-preserved : goal.loop-place-preserved
loop-place-preserved g c =
    let e = c.in-Ok.ensures in let inv = c.loop-place.invariant in (
      read_kept g.D.Disk c.args.logs.now.items c.loop-place.logs.items c.read_at.new.logs.items c.loop-place.place (Ok c.in-Ok.field-0) inv.0
          (omega (arith, inv.0.count, c.requires, c.loop-place-test.true)) e.count e.others e.did,
      λ tell. read_more g.D.Disk c.args.logs.now.items c.loop-place.logs.items c.read_at.new.logs.items c.loop-place.place (Ok c.in-Ok.field-0) inv.0
          (omega (arith, inv.0.count, c.requires, c.loop-place-test.true)) e.count e.others e.did refl tell (inv.1 tell),
    )
