-- The count that was read decides.
use Rattle.std.proofs.Common.{◌+◌, Bool, ap, ◌∙◌, arith}
use Rattle.mp_redo.specs.Reading.{field}
use Rattle.mp_log.proofs.Counts.{is_field}
use Rattle.mp_log.proofs.batches.count_at.Goals as goal

pub returns-then-is_batch_count-clause-exact : goal.returns-then-is_batch_count-clause-exact
returns-then-is_batch_count-clause-exact g c = λ tells same.
    is_field (g.D.Disk.seen c.args.disk.now) c.args.gate c.args.size c.in_ok-count.count c.is_batch_count.result same (omega arith) (omega (arith, c.in_ok-count.ensures.small)) (c.in_ok-count.ensures.spelled tells) c.is_batch_count.ensures
    ∙ ap (λ (b : Bool). field (c.args.gate + 1) b c.in_ok-count.count) c.if-is_batch_count.true

pub returns-else-is_batch_count-clause-exact : goal.returns-else-is_batch_count-clause-exact
returns-else-is_batch_count-clause-exact g c = λ tells same.
    is_field (g.D.Disk.seen c.args.disk.now) c.args.gate c.args.size c.in_ok-count.count c.is_batch_count.result same (omega arith) (omega (arith, c.in_ok-count.ensures.small)) (c.in_ok-count.ensures.spelled tells) c.is_batch_count.ensures
    ∙ ap (λ (b : Bool). field (c.args.gate + 1) b c.in_ok-count.count) c.if-is_batch_count.false
