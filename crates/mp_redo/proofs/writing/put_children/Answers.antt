-- There is room for a child more, and then it is put.
use Rattle.std.proofs.lemmas.List.{get_or_default}
use Rattle.mp_cells.specs.ChildCell.{child_cell}
use Rattle.mp_redo.proofs.Puts.{room_next, puts_next}
use Rattle.mp_redo.proofs.writing.put_children.Goals as goal

pub put_child-requires : goal.put_child-requires
put_child-requires c = room_next child_cell c.args.children.now c.loop-child.child-index _ c.args.into.now c.loop-child.into c.loop-child-test.true (get_or_default c.args.children.now c.loop-child.child-index _ _ c.loop-child-test.true) c.requires c.loop-child.invariant

pub loop-child-preserved : goal.loop-child-preserved
loop-child-preserved c = puts_next child_cell c.args.children.now c.loop-child.child-index _ c.args.into.now c.loop-child.into c.put_child.new.into c.loop-child-test.true (get_or_default c.args.children.now c.loop-child.child-index _ _ c.loop-child-test.true) c.loop-child.invariant c.put_child.ensures
