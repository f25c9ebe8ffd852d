use Rattle.mp_desk.proofs.ChangingPages.{ChangedSoFar}
use Rattle.mp_desk.proofs.making.change_pages.Given as goal

abbrev pub invariant-loop-i : goal.invariant-loop-i
invariant-loop-i l = ChangedSoFar l.llsn l.fn.pool l.plan l.i l.pool l.records
