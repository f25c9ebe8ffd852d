-- Lane by lane.
use Rattle.std.proofs.Common.{Ok, Err, refl, sym, subst, ◌∙◌, arith}
use Rattle.mp_files.specs.Nine.{seen_at}
use Rattle.mp_files.proofs.Nines.{KeptLogs-refl, KeptLogs-trans}
use Rattle.mp_recover.specs.Merging.{MergeRefuses, MergeCause}
use Rattle.mp_recover.proofs.Filling.{seen_same, tells_same, filled_at, filled_kept, filled_sound, filled_left, filled_below, filled_refuses, filled_goes, filled_cause}
use Rattle.mp_recover.proofs.merging.fill_all.Goals as goal

pub loop-place-init : goal.loop-place-init
loop-place-init g c = (
  c.requires.lanes,
  KeptLogs-refl g.D.Disk c.args.logs.now.items,
  c.requires.sound,
  λ goes. goes,
  λ lefts tell left. (left, λ place lane lt. absurd (omega (arith, lt))),
)

pub returns-in-Err-clause-kept : goal.returns-in-Err-clause-kept
returns-in-Err-clause-kept g c =
    let d = g.D.Disk in let e = c.in-Err.ensures in let inv = c.loop-place.invariant in
    let place = c.loop-place.place in
    let filled = filled_at d place (Err c.in-Err.refusal) c.loop-place.lanes.items c.fill_at.new.lanes.items c.loop-place.logs.items c.fill_at.new.logs.items
    (omega (arith, inv.0, c.loop-place-test.true)) (omega (arith, inv.1.count, c.requires.logs, c.loop-place-test.true)) e.lanes e.logs e.others e.other_logs e.did in
    KeptLogs-trans d c.args.logs.now.items c.loop-place.logs.items c.fill_at.new.logs.items inv.1 (filled_kept d place _ _ _ _ _ filled)

pub returns-in-Err-clause-fills : goal.returns-in-Err-clause-fills
returns-in-Err-clause-fills g c =
    let d = g.D.Disk in let e = c.in-Err.ensures in let inv = c.loop-place.invariant in
    let place = c.loop-place.place in
    let old = c.args.logs.now.items in
    let filled = filled_at d place (Err c.in-Err.refusal) c.loop-place.lanes.items c.fill_at.new.lanes.items c.loop-place.logs.items c.fill_at.new.logs.items
    (omega (arith, inv.0, c.loop-place-test.true)) (omega (arith, inv.1.count, c.requires.logs, c.loop-place-test.true)) e.lanes e.logs e.others e.other_logs e.did in
    λ lefts tell left. subst (MergeRefuses (seen_at d old)) (sym c.refused_as.ensures)
    (filled_refuses d place _ _ _ _ _ filled (seen_at d old) lefts (seen_same d old c.loop-place.logs.items inv.1) (tells_same d old c.loop-place.logs.items inv.1 tell) (inv.4 lefts tell left).0 (omega (arith, c.loop-place-test.true)) c.in-Err.refusal refl)

pub returns-in-Err-clause-sound : goal.returns-in-Err-clause-sound
returns-in-Err-clause-sound g c =
    let d = g.D.Disk in let e = c.in-Err.ensures in let inv = c.loop-place.invariant in
    let place = c.loop-place.place in
    let filled = filled_at d place (Err c.in-Err.refusal) c.loop-place.lanes.items c.fill_at.new.lanes.items c.loop-place.logs.items c.fill_at.new.logs.items
    (omega (arith, inv.0, c.loop-place-test.true)) (omega (arith, inv.1.count, c.requires.logs, c.loop-place-test.true)) e.lanes e.logs e.others e.other_logs e.did in
    filled_sound d place _ _ _ _ _ filled inv.2

pub returns-in-Err-clause-cause : goal.returns-in-Err-clause-cause
returns-in-Err-clause-cause g c =
    let d = g.D.Disk in let e = c.in-Err.ensures in let inv = c.loop-place.invariant in
    let place = c.loop-place.place in
    let old = c.args.logs.now.items in
    let filled = filled_at d place (Err c.in-Err.refusal) c.loop-place.lanes.items c.fill_at.new.lanes.items c.loop-place.logs.items c.fill_at.new.logs.items
    (omega (arith, inv.0, c.loop-place-test.true)) (omega (arith, inv.1.count, c.requires.logs, c.loop-place-test.true)) e.lanes e.logs e.others e.other_logs e.did in
    λ goes. subst (MergeCause d old c.fill_at.new.logs.items) (sym c.refused_as.ensures) (filled_cause d place _ _ _ _ _ filled old inv.1 c.in-Err.refusal refl (inv.3 goes))

pub loop-place-preserved : goal.loop-place-preserved
loop-place-preserved g c =
    let d = g.D.Disk in let e = c.in-Ok.ensures in let inv = c.loop-place.invariant in
    let place = c.loop-place.place in
    let old = c.args.logs.now.items in
    let mid = c.loop-place.logs.items in
    let filled = filled_at d place (Ok c.in-Ok.field-0) c.loop-place.lanes.items c.fill_at.new.lanes.items mid c.fill_at.new.logs.items
    (omega (arith, inv.0, c.loop-place-test.true)) (omega (arith, inv.1.count, c.requires.logs, c.loop-place-test.true)) e.lanes e.logs e.others e.other_logs e.did in (
      e.lanes ∙ inv.0,
      KeptLogs-trans d old mid c.fill_at.new.logs.items inv.1 (filled_kept d place _ _ _ _ _ filled),
      filled_sound d place _ _ _ _ _ filled inv.2,
      λ goes. filled_goes d place _ _ _ _ _ filled refl (inv.3 goes),
      λ lefts tell left.
          let so_far = inv.4 lefts tell left in
          let same = seen_same d old mid inv.1 in
          let told = tells_same d old mid inv.1 tell in
          (filled_left d place _ _ _ _ _ filled (seen_at d old) lefts same told so_far.0 refl, filled_below d place _ _ _ _ _ filled (seen_at d old) lefts same told so_far.0 refl so_far.1),
    )
