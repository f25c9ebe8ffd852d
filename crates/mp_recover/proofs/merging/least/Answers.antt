-- Lane by lane.
use Rattle.std.proofs.Common.{ℕ, ◌+◌, ◌<◌, sym, subst, ◌∙◌, arith}
use Rattle.std.proofs.lemmas.Option.{slice_get_read}
use Rattle.mp_recover.specs.Merging.{IsLeast}
use Rattle.mp_recover.proofs.LeastLane.{least_first, least_next, least_still}
use Rattle.mp_recover.proofs.merging.least.Goals.{then-is_before, else-is_before}
use Rattle.mp_recover.proofs.merging.least.Goals as goal

pub loop-place-init : goal.loop-place-init
loop-place-init c = (omega arith, omega arith, least_first c.args.lanes.now.items (omega (arith, c.requires.some)))

pub is_before-requires-clause-own : goal.is_before-requires-clause-own
is_before-requires-clause-own c = c.requires.sound c.loop-place.place c.index.result.now
    (slice_get_read c.args.lanes.now.items 8 c.loop-place.place c.index.result.now (sym c.requires.some) c.loop-place-test.true c.index.ensures)

pub is_before-requires-clause-others : goal.is_before-requires-clause-others
is_before-requires-clause-others c = c.requires.sound c.loop-place.found c.index-in-loop-place.result.now
    (slice_get_read c.args.lanes.now.items 8 c.loop-place.found c.index-in-loop-place.result.now (sym c.requires.some) c.loop-place.invariant.1 c.index-in-loop-place.ensures)

pub loop-place-preserved : goal.loop-place-preserved
loop-place-preserved c =
    let lanes = c.args.lanes.now.items in
    let place = c.loop-place.place in
    let inv = c.loop-place.invariant in
    let one_is = slice_get_read c.args.lanes.now.items 8 c.loop-place.place c.index.result.now (sym c.requires.some) c.loop-place-test.true c.index.ensures in
    let other_is = slice_get_read c.args.lanes.now.items 8 c.loop-place.found c.index-in-loop-place.result.now (sym c.requires.some) c.loop-place.invariant.1 c.index-in-loop-place.ensures in
    elim c.if-is_before.branch [
      | then-is_before w ↦ subst (λ (n : ℕ). (n < place + 1) × (n < 8) × IsLeast (place + 1) lanes n) (sym w.found-is) (
        omega arith,
        c.loop-place-test.true,
        least_next place lanes c.loop-place.found inv.2 c.index.result.now c.index-in-loop-place.result.now one_is other_is
            (sym c.is_before.ensures ∙ w.if-is_before.true),
      )
      | else-is_before w ↦ subst (λ (n : ℕ). (n < place + 1) × (n < 8) × IsLeast (place + 1) lanes n) (sym w.found-is) (
        omega (arith, inv.0),
        inv.1,
        least_still place lanes c.loop-place.found inv.2 c.index.result.now c.index-in-loop-place.result.now one_is other_is
            (sym c.is_before.ensures ∙ w.if-is_before.false),
      )
    ]
