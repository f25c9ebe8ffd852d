-- Marks are forgotten one by one; in front of these places and behind them there are none.
use Rattle.std.proofs.Common.{◌+◌, ◌<◌, length, refl, ◌∙◌, add-one, arith}
use Rattle.std.proofs.lemmas.List.{length-set}
use Rattle.std.proofs.lemmas.Option.{slice_get_read}
use Rattle.mp_schedule.proofs.Marks.{over_unmarked, forgotten_whole}
use Rattle.mp_schedule.proofs.Scanning.{forgotten_so}
use Rattle.mp_schedule.proofs.schedule.forget_within.Goals as goal

pub loop-place-init : goal.loop-place-init
loop-place-init c = record {
  count = refl;
  done = over_unmarked c.args.tries.now.items c.args.first c.requires.over;
  rest = refl;
}

pub loop-place-preserved : goal.loop-place-preserved
loop-place-preserved c =
    let old = c.args.tries.now.items in
    let now = c.loop-place.tries.items in
    let place = c.loop-place.place in
    let t = c.index-it.result.now in
    let inside : place < length now = omega (arith, c.loop-place-test.true, c.requires.end, c.loop-place.invariant.count) in
    let at = slice_get_read now (length now) place t refl inside c.index-it.ensures in
    let more = forgotten_so old now place (place + 1) t c.without_mark.result at (add-one place) c.without_mark.ensures c.loop-place.invariant.done c.loop-place.invariant.rest in
    record {
      count = length-set now place c.without_mark.result ∙ c.loop-place.invariant.count;
      done = more.0;
      rest = more.1;
    }

pub returns : goal.returns
returns c =
    forgotten_whole c.args.tries.now.items c.loop-place.tries.items c.loop-place.place c.loop-place.invariant.done c.loop-place.invariant.rest
    (λ k t behind at. c.requires.unmarked k t (omega (arith, behind, c.loop-place-test.false)) at)
