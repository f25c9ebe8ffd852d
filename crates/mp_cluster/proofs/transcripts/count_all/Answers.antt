use Rattle.std.proofs.Common.{arith}
use Rattle.mp_cluster.proofs.CommitCounts.{counts_part}
use Rattle.mp_cluster.proofs.transcripts.count_all.Goals as goal

pub loop-part-preserved : goal.loop-part-preserved
loop-part-preserved c =
    let more = counts_part c.args.parts.now c.loop-part.part-index c.part-item.result c.as_slice.result.now c.loop-part-test.true c.part-item.is c.as_slice.ensures in
    let so_far = c.loop-part.invariant in
    let its = c.count_commits.ensures in
    let sum = c.in_ok-commits.ensures in
    omega (arith, more, so_far, its, sum)
