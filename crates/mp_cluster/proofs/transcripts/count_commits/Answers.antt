use Rattle.std.proofs.Common.{◌≡◌, true, false, is_some, sym, ◌∙◌, arith}
use Rattle.mp_script.specs.Transactions.{cts_of}
use Rattle.mp_cluster.proofs.CommitCounts.{counts_on}
use Rattle.mp_cluster.proofs.transcripts.count_commits.Goals as goal
use Rattle.mp_cluster.proofs.transcripts.count_commits.Goals.{then-is_commit, else-is_commit}

pub loop-answer-preserved : goal.loop-answer-preserved
loop-answer-preserved c =
    let next = counts_on c.args.answers.now c.loop-answer.answer-index c.answer-item.result c.loop-answer-test.true c.answer-item.is in
    elim c.if-is_commit.branch [
      | then-is_commit w ↦
          let is : is_some (cts_of c.answer-item.result.reply) ≡ true = sym c.is_commit.ensures ∙ w.if-is_commit.true in
          let one = rw is at next in
          record { few = omega arith; all = omega (arith, one) }
      | else-is_commit w ↦
          let is : is_some (cts_of c.answer-item.result.reply) ≡ false = sym c.is_commit.ensures ∙ w.if-is_commit.false in
          let none = rw is at next in
          record { few = omega arith; all = omega (arith, none) }
    ]
