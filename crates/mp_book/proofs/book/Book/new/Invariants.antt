use Rattle.mp_book.proofs.Changes.{AreStarted}
use Rattle.mp_book.proofs.book.Book.new.Given as goal

abbrev pub invariant-loop-number : goal.invariant-loop-number
invariant-loop-number l = AreStarted l.script.lines.items l.script.sessions.items l.primary l.number l.sessions.items
