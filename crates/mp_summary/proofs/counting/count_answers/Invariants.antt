use Rattle.std.proofs.Common.{take}
use Rattle.mp_summary.specs.Counted.{HasCounted}
use Rattle.mp_summary.proofs.counting.count_answers.Given as goal

abbrev pub invariant-loop-answer : goal.invariant-loop-answer
invariant-loop-answer l = HasCounted l.lines (take l.answer-index l.answers) l.fn.counts l.counts
