-- One record more, and then the rest.
use Rattle.std.proofs.Common.{◌+◌, ap, length, ◌∙◌}
use Rattle.std.proofs.lemmas.List.{length_push}
use Rattle.mp_redo.proofs.Rounds.{record_next}
use Rattle.mp_redo.proofs.reading.records_at.Goals as goal

pub loop-preserved : goal.loop-preserved
loop-preserved c = record {
  room = c.in-Ok.ensures.room;
  count = ap length c.put.ensures ∙ length_push c.loop.into c.in-Ok.item ∙ ap (λ n. n + 1) c.loop.invariant.count;
  all = record_next c.args.count c.loop.counter c.args.most c.args.llsn c.loop.end c.in-Ok.next c.args.bytes.now c.loop.into c.put.new.self c.in-Ok.item _ c.loop-test.true c.in-Ok.ensures.exact c.put.ensures c.loop.invariant.all;
}
