-- Behind the cells that are there then, blanks stand as before.
use Rattle.std.proofs.Common.{arith}
use Rattle.mp_cells.proofs.InPlace.{IsPadded-longer}
use Rattle.mp_cells.proofs.child_cells.ChildCells.put_at_key.Goals as goal

pub invariant_of-self : goal.invariant_of-self
invariant_of-self c = IsPadded-longer c.put_at_key.result c.put_at_key.new.cells c.self.invariant c.put_at_key.ensures.least (omega (arith, c.put_at_key.ensures.most, c.self.invariant.whole)) c.put_at_key.auto.cells c.put_at_key.ensures.rest
