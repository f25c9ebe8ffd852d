-- the cells so far are put
use Rattle.std.proofs.Common.{take}
use Rattle.std.specs.List.{flat_map}
use Rattle.mp_cells.specs.ChildCell.{child_cell}
use Rattle.mp_redo.specs.Writing.{Puts}
use Rattle.mp_redo.proofs.writing.put_children.Given as goal

abbrev pub invariant-loop-child : goal.invariant-loop-child
invariant-loop-child l = Puts (flat_map child_cell (take l.child-index l.children)) l.initial.into l.into
