use Rattle.std.proofs.Common.{ℕ, ◌+◌, slice_get, refl, ap, ◌∙◌, inl, inr, ⊎_elim, arith}
use Rattle.mp_core_pages.specs.declared.opening.TheConstants.{MOST_MTRS}
use Rattle.mp_desk.proofs.BackSteps.{none_moved, row_moved, next_in, few_in, rows_go, rows_quiet, item_at, halts_later, rose_later}
use Rattle.mp_desk.proofs.desk.Desk.go_back.Goals as goal

pub loop-i-init : goal.loop-i-init
loop-i-init g c = record {
  desk = c.requires.desk;
  own = c.requires.own;
  back = none_moved c.args.p c.args.id c.args.formers.now c.args.restored.now c.args.node.now c.requires.within c.requires.formers;
  place = refl;
  log = c.requires.log;
  media = λ work agree. agree;
  tells = refl;
  counted = omega arith;
}

pub put_back-requires-clause-former : goal.put_back-requires-clause-former
put_back-requires-clause-former g c = next_in c.args.p c.args.id c.args.formers.now c.args.restored.now c.loop-i.restored c.args.node.now c.loop-i.node c.loop-i.node c.loop-i.invariant.back c.requires.desk.part c.requires.open c.index-formers-i.result (ap (slice_get c.args.formers.now) c.loop-i.invariant.place ∙ item_at c.args.formers.now c.loop-i.i c.index-formers-i.result _ c.index-formers-i.is c.loop-i-test.true)

pub put_back-requires-clause-few : goal.put_back-requires-clause-few
put_back-requires-clause-few g c = few_in c.args.p c.args.id c.args.formers.now c.args.restored.now c.loop-i.restored c.args.node.now c.loop-i.node c.loop-i.node c.loop-i.invariant.back c.requires.desk.part MOST_MTRS c.requires.few c.index-formers-i.result (ap (slice_get c.args.formers.now) c.loop-i.invariant.place ∙ item_at c.args.formers.now c.loop-i.i c.index-formers-i.result _ c.index-formers-i.is c.loop-i-test.true)

pub put_back-requires-clause-agrees : goal.put_back-requires-clause-agrees
put_back-requires-clause-agrees g c =
    let work = c.requires.agrees.0 in
    let agree = c.requires.agrees.1 in
    (work, c.loop-i.invariant.media work agree)

pub returns-in-Err-clause-back : goal.returns-in-Err-clause-back
returns-in-Err-clause-back g c = rows_quiet c.args.p c.args.id c.args.formers.now c.args.restored.now c.loop-i.restored c.args.node.now c.loop-i.node c.put_back.new.node c.loop-i.invariant.back c.in-Err.ensures.quiet

pub returns-in-Err-clause-cause : goal.returns-in-Err-clause-cause
returns-in-Err-clause-cause g c = halts_later c.args.p c.args.node.now c.loop-i.node c.put_back.new.node c.in-Err.halt (rows_go c.args.p c.args.id c.args.formers.now c.args.restored.now c.loop-i.restored c.args.node.now c.loop-i.node c.loop-i.invariant.back) c.in-Err.ensures.cause

pub returns-in-Err-clause-still_open : goal.returns-in-Err-clause-still_open
returns-in-Err-clause-still_open g c =
    ⊎_elim (λ failed. inl (failed.0, failed.1, rose_later (g.D.Disk.faults c.args.media.now.log.disk) (g.D.Disk.faults c.loop-i.media.log.disk) (g.D.Disk.faults c.put_back.new.media.log.disk) c.loop-i.invariant.counted failed.2)) (λ still. inr still) c.in-Err.ensures.still_open

pub returns-in-Err-clause-media : goal.returns-in-Err-clause-media
returns-in-Err-clause-media g c work agree = c.in-Err.ensures.media work (c.loop-i.invariant.media work agree)

pub loop-i-preserved : goal.loop-i-preserved
loop-i-preserved g c = record {
  desk = c.put_back.ensures.desk;
  own = c.put_back.ensures.own;
  back =
      let made = c.in_default.ensures.back in
      row_moved c.args.p c.args.id c.args.formers.now c.args.restored.now c.loop-i.restored c.args.node.now c.loop-i.node c.put_back.new.node c.loop-i.invariant.back made.0 c.index-formers-i.result (ap (slice_get c.args.formers.now) c.loop-i.invariant.place ∙ item_at c.args.formers.now c.loop-i.i c.index-formers-i.result _ c.index-formers-i.is c.loop-i-test.true) c.requires.once made.1;
  place = ap (λ (k : ℕ). k + 1) c.loop-i.invariant.place;
  log = c.in_default.ensures.open;
  media = λ work agree. ⊎_elim (λ agrees. agrees) (λ failed. absurd (cc)) (c.in_default.ensures.media work (c.loop-i.invariant.media work agree));
  tells = c.put_back.ensures.tells ∙ c.loop-i.invariant.tells;
  counted = let one = c.loop-i.invariant.counted in let two = c.put_back.ensures.counted in omega (arith, one, two);
}

pub returns-clause-back : goal.returns-clause-back
returns-clause-back g c = c.loop-i.invariant.back

pub returns-clause-media : goal.returns-clause-media
returns-clause-media g c work agree = inl (c.loop-i.invariant.media work agree)

pub returns-in-Err-clause-counted : goal.returns-in-Err-clause-counted
returns-in-Err-clause-counted g c = let one = c.loop-i.invariant.counted in let two = c.put_back.ensures.counted in omega (arith, one, two)

pub returns-clause-counted : goal.returns-clause-counted
returns-clause-counted g c = c.loop-i.invariant.counted

pub returns-in-Err-clause-failed : goal.returns-in-Err-clause-failed
returns-in-Err-clause-failed g c e =
    let f = c.in-Err.ensures.failed e in
    (f.0, rose_later (g.D.Disk.faults c.args.media.now.log.disk) (g.D.Disk.faults c.loop-i.media.log.disk) (g.D.Disk.faults c.put_back.new.media.log.disk) c.loop-i.invariant.counted f.1)

pub returns-in-Err-clause-down : goal.returns-in-Err-clause-down
returns-in-Err-clause-down g c work agree e = c.in-Err.ensures.down work (c.loop-i.invariant.media work agree) e

pub returns-clause-failed : goal.returns-clause-failed
returns-clause-failed g c e = absurd (cc)

pub returns-clause-down : goal.returns-clause-down
returns-clause-down g c work agree e = absurd (cc)
