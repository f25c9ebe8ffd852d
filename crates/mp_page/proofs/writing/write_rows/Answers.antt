-- One cell more behind those so far.
use Rattle.mp_cells.specs.RowCell.{row_cell}
use Rattle.mp_page.proofs.Steps.{written_next}
use Rattle.mp_page.proofs.writing.write_rows.Goals as goal

pub loop-i-preserved : goal.loop-i-preserved
loop-i-preserved c = written_next row_cell 64 c.loop-i.i c.args.rows.now _ c.args.into.now c.loop-i.into c.split_at_mut.result.0.now c.split_at_mut.result.1.now c.write_row.new.into c.loop-i-test.true (c.index-rows-i.is) c.requires c.loop-i.invariant c.loop-i.auto.into c.split_at_mut.ensures.front c.split_at_mut.ensures.back c.write_row.ensures
