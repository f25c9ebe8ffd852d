use Rattle.std.proofs.Common.{take}
use Rattle.std.specs.List.{flat_map}
use Rattle.mp_summary.specs.Counted.{HasCounted}
use Rattle.mp_summary.proofs.counting.count_parts.Given as goal

abbrev pub invariant-loop-part : goal.invariant-loop-part
invariant-loop-part l = HasCounted l.lines (flat_map (λ part. part.answers.items) (take l.part-index l.parts)) l.fn.counts l.counts
