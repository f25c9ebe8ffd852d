use Rattle.std.proofs.Common.{[], inr}
use Rattle.mp_model.specs.declared.replies.Reply.TheVariants.{Began}
use Rattle.mp_book.specs.declared.stage.Stage.TheVariants.{Open}
use Rattle.mp_book.proofs.Books.{book_answered}
use Rattle.mp_book.proofs.book.Book.answer_begin.Goals as goal

pub returns-clause-book : goal.returns-clause-book
returns-clause-book c = λ lines sessions primary book calm.
    let next = c.requires.next in
    book_answered lines sessions primary c.args.self.now c.begin_next.new.self c.args.session next.0 next.1 (Began c.args.trx.view) (Open c.args.trx) [] 0 book next.2 next.3 (inr calm) (c.begin_next.ensures next.0 next.1 next.2)
