-- Page by page.
use Rattle.mp_recover.proofs.RedoneInOrder.{in_order_redone}
use Rattle.mp_recover.proofs.laws.law_redo.Goals as goal

pub returns : goal.returns
returns c = in_order_redone
