use Rattle.mp_desk.proofs.ChangingPages.{NoUndoBefore}
use Rattle.mp_desk.proofs.making.undo_page_of.Given as goal

abbrev pub invariant-loop-i : goal.invariant-loop-i
invariant-loop-i l = NoUndoBefore l.i l.plan
