use Rattle.mp_summary.proofs.CountedOn.{parts_next}
use Rattle.mp_summary.proofs.counting.count_parts.Goals as goal

pub loop-part-preserved : goal.loop-part-preserved
loop-part-preserved c =
    parts_next c.args.lines.now c.args.parts.now c.loop-part.part-index c.part-item.result c.as_slice.result.now c.args.counts.now c.loop-part.counts c.count_answers.new.counts
    c.loop-part-test.true c.part-item.is c.as_slice.ensures c.loop-part.invariant c.in_ok-count_answers.ensures
