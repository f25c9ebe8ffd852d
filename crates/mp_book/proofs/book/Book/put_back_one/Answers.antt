use Rattle.std.proofs.Common.{◌+◌}
use Rattle.mp_book.proofs.Changes.{book_set, back_set}
use Rattle.mp_book.proofs.book.Book.put_back_one.Goals as goal

pub returns-clause-book : goal.returns-clause-book
returns-clause-book c = λ lines sessions primary book.
    let asked = c.requires in
    book_set lines sessions primary c.args.self.now c.count_one_back.new.self c.args.session (record asked.0 { restored = asked.0.restored + 1 }) book (c.count_one_back.ensures.set asked.0 asked.1)
    (back_set lines sessions primary c.args.self.now.answers.items c.args.session asked.0 (book.each c.args.session asked.0 asked.1) asked.3 asked.2)
