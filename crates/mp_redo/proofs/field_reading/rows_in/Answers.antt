-- One row more, and then the rest.
use Rattle.std.proofs.Common.{◌+◌, ap, length, ◌∙◌, arith}
use Rattle.std.proofs.lemmas.List.{length_push}
use Rattle.mp_cells.specs.declared.rows.Row.{Row}
use Rattle.mp_redo.specs.Reading.{row_at}
use Rattle.mp_redo.proofs.Rounds.{next}
use Rattle.mp_redo.proofs.field_reading.rows_in.Goals as goal

pub loop-i-preserved : goal.loop-i-preserved
loop-i-preserved c = record {
  room = omega (arith, c.in-Ok.ensures.room);
  count = ap length c.put.ensures ∙ length_push c.loop-i.rows c.in-Ok.row ∙ ap (λ n. n + 1) c.loop-i.invariant.count;
  all = next row_at 64 (λ (row : Row). row.key) c.args.count c.loop-i.i c.loop-i.least c.args.high c.args.at c.args.bytes.now c.loop-i.rows c.put.new.self c.in-Ok.row _ _ c.loop-i-test.true c.in-Ok.ensures.exact c.put.ensures (ap (λ n. n + 1) c.from-least.ensures) c.loop-i.invariant.all;
}
