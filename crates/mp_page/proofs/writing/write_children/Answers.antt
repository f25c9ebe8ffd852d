-- One cell more behind those so far.
use Rattle.std.proofs.lemmas.List.{get_or_default}
use Rattle.mp_cells.specs.ChildCell.{child_cell}
use Rattle.mp_page.proofs.Steps.{written_next}
use Rattle.mp_page.proofs.writing.write_children.Goals as goal

pub loop-i-preserved : goal.loop-i-preserved
loop-i-preserved c = written_next child_cell 8 c.loop-i.i c.args.children.now _ c.args.into.now c.loop-i.into c.split_at_mut.result.0.now c.split_at_mut.result.1.now c.write_child.new.into c.loop-i-test.true (get_or_default c.args.children.now c.loop-i.i _ _ c.loop-i-test.true) c.requires c.loop-i.invariant c.loop-i.auto.into c.split_at_mut.ensures.front c.split_at_mut.ensures.back c.write_child.ensures
