use Rattle.mp_book.specs.declared.stage.Stage.TheVariants.{Closed}
use Rattle.mp_book.proofs.Changes.{book_set, closed_set}
use Rattle.mp_book.proofs.book.Book.end_unprinted.Goals as goal

pub returns-clause-book : goal.returns-clause-book
returns-clause-book c = λ lines sessions primary book.
    let asked = c.requires in
    book_set lines sessions primary c.args.self.now c.set_stage.new.self c.args.session (record asked.0 { stage = Closed }) book (c.set_stage.ensures.set asked.0 asked.1)
    (closed_set lines sessions primary c.args.self.now.answers.items c.args.session asked.0 (book.each c.args.session asked.0 asked.1) asked.2)
