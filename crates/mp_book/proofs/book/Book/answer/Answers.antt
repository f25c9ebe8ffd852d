use Rattle.std.proofs.Common.{subst}
use Rattle.mp_book.specs.Stages.{with_former}
use Rattle.mp_book.specs.Books.{IsAnswered, stage_after}
use Rattle.mp_book.proofs.Books.{book_answered}
use Rattle.mp_book.proofs.book.Book.answer.Goals as goal

pub returns-clause-answered : goal.returns-clause-answered
returns-clause-answered c = λ s line next.
    subst (λ stage. IsAnswered c.args.self.now c.answer_next.new.self c.args.session s line c.args.reply stage (with_former s.formers.items c.args.former) s.restored) (c.next_stage-stage.ensures s line next) (c.answer_next.ensures s line next)

pub returns-clause-book : goal.returns-clause-book
returns-clause-book c = λ lines sessions primary book calm.
    let next = c.requires.next in
    book_answered lines sessions primary c.args.self.now c.answer_next.new.self c.args.session next.0 next.1 c.args.reply (stage_after (next.0).stage (next.1).stmt c.args.reply) (with_former (next.0).formers.items c.args.former) (next.0).restored book next.2 next.3 calm (returns-clause-answered c next.0 next.1 next.2)
