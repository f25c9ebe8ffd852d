-- The next mtr, and then the rest.
use Rattle.std.proofs.Common.{◌≡◌, ◌+◌, ◌-◌, suc, refl, ap, sym, length, ◌∙◌, arith}
use Rattle.std.proofs.lemmas.List.{length-drop}
use Rattle.mp_log.specs.Reading.{mtrs_at}
use Rattle.mp_log.proofs.Checked.{so_far_first, has_some, goes_on, refuses}
use Rattle.mp_log.proofs.batches.check_batch.Goals as goal

pub loop-init : goal.loop-init
loop-init c = record { place = refl; so_far = so_far_first c.args.node c.args.last c.args.place _ c.args.bytes.now c.args.llsns.now.items (omega arith) }

pub returns-then-not-is_next : goal.returns-then-not-is_next
returns-then-not-is_next c =
    let left : length c.args.bytes.now - c.loop.counter ≡ suc (length c.args.bytes.now - (c.loop.counter + 1)) = omega (arith, c.loop-test.true) in
    refuses (mtrs_at (length c.args.bytes.now) c.args.node c.args.last c.args.bytes.now c.args.place) c.args.bytes.now c.args.node c.args.last c.args.llsns.now.items (length c.args.bytes.now - c.loop.counter) (length c.args.bytes.now - (c.loop.counter + 1)) c.loop.last c.loop.start c.loop.rest.now c.loop.llsns.items c.loop.invariant.so_far left (has_some c.in_ok-mtr.mtr c.loop.rest.now _ c.in_ok-mtr.ensures.spelled.1)
    c.in_ok-mtr.mtr c.in_ok-mtr.count c.in_ok-mtr.ensures.exact (sym c.is_next.ensures ∙ c.if-not-is_next.true)

pub loop-preserved : goal.loop-preserved
loop-preserved c =
    let left : length c.args.bytes.now - c.loop.counter ≡ suc (length c.args.bytes.now - (c.loop.counter + 1)) = omega (arith, c.loop-test.true) in
    record {
      place = omega (arith, c.loop.invariant.place, ap length c.split_at.ensures.back, length-drop c.in_ok-mtr.count c.loop.rest.now, c.in_ok-mtr.ensures.within);
      so_far = goes_on (mtrs_at (length c.args.bytes.now) c.args.node c.args.last c.args.bytes.now c.args.place) c.args.bytes.now c.args.node c.args.last c.args.llsns.now.items (length c.args.bytes.now - c.loop.counter) (length c.args.bytes.now - (c.loop.counter + 1)) c.loop.last c.loop.start c.loop.rest.now c.loop.llsns.items c.loop.invariant.so_far left (has_some c.in_ok-mtr.mtr c.loop.rest.now _ c.in_ok-mtr.ensures.spelled.1)
          c.in_ok-mtr.mtr c.in_ok-mtr.count _ c.split_at.result.1.now c.push.new.self.items c.in_ok-mtr.ensures.exact (sym c.is_next.ensures ∙ c.if-not-is_next.false) c.in_ok-mtr.ensures.spelled.0 c.in_ok-mtr.ensures.spelled.1 c.split_at.ensures.back refl c.in_ok-push.ensures.ok;
    }
