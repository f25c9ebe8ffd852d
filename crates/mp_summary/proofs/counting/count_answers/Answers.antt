use Rattle.mp_summary.proofs.CountedOn.{counted_next}
use Rattle.mp_summary.proofs.counting.count_answers.Goals as goal

pub loop-answer-preserved : goal.loop-answer-preserved
loop-answer-preserved c =
    counted_next c.args.lines.now c.args.answers.now c.loop-answer.answer-index c.answer-item.result c.args.counts.now c.loop-answer.counts c.count_answer.new.counts
    c.loop-answer-test.true c.answer-item.is c.loop-answer.invariant c.in_ok-count_answer.ensures
