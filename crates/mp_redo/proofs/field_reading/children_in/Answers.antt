-- One child more, and then the rest.
use Rattle.std.proofs.Common.{◌+◌, ap, length, ◌∙◌, arith}
use Rattle.std.proofs.lemmas.List.{length_push}
use Rattle.mp_cells.specs.declared.children.Child.{Child}
use Rattle.mp_redo.specs.Reading.{child_at}
use Rattle.mp_redo.proofs.Rounds.{next}
use Rattle.mp_redo.proofs.field_reading.children_in.Goals as goal

pub loop-i-preserved : goal.loop-i-preserved
loop-i-preserved c = record {
  room = omega (arith, c.in_ok-child.ensures.room);
  count = ap length c.put.ensures ∙ length_push c.loop-i.children c.in_ok-child.child ∙ ap (λ n. n + 1) c.loop-i.invariant.count;
  all = next child_at 8 (λ (child : Child). child.low) c.args.count c.loop-i.i c.loop-i.least c.args.high c.args.at c.args.bytes.now c.loop-i.children c.put.new.self c.in_ok-child.child _ _ c.loop-i-test.true c.in_ok-child.ensures.exact c.put.ensures (ap (λ n. n + 1) c.from-least.ensures) c.loop-i.invariant.all;
}
