-- One cell more, and then the rest.
use Rattle.std.proofs.Common.{◌+◌, ap, length, ◌∙◌}
use Rattle.std.proofs.lemmas.List.{length_push}
use Rattle.mp_page.proofs.Steps.{next_rest, children_next}
use Rattle.mp_page.proofs.reading.children_of.Goals as goal

pub loop-preserved : goal.loop-preserved
loop-preserved c = record {
  count = ap length c.put.ensures ∙ length_push c.loop.children c.child_of.result ∙ ap (λ n. n + 1) c.loop.invariant.count;
  rest = c.split_at.ensures.back ∙ next_rest 8 c.loop.counter c.args.cells.now c.loop.rest.now c.loop.invariant.rest;
  cells = children_next c.args.count c.loop.counter c.loop.children c.child_of.result c.loop.rest.now c.split_at.result.1.now c.put.new.self _ c.loop-test.true c.child_of.ensures c.put.ensures c.split_at.ensures.back c.loop.invariant.cells;
}
