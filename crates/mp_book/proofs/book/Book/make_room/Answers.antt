use Rattle.std.proofs.Common.{refl, ap, ◌∙◌}
use Rattle.mp_model.specs.Listed.{Listed}
use Rattle.mp_model.specs.declared.replies.Answer.{Answer}
use Rattle.mp_book.proofs.Items.{set_same, stands_there}
use Rattle.mp_book.proofs.Changes.{book_put, book_same, same_session}
use Rattle.mp_book.proofs.book.Book.make_room.Goals as goal

pub returns-in_err-reserve-clause-same : goal.returns-in_err-reserve-clause-same
returns-in_err-reserve-clause-same c = λ s found. record {
  after = s;
  sessions = set_same c.args.self.now.sessions.items c.args.session s found;
  same = record { rest = refl; formers = refl; waits = refl };
}

pub returns-in_err-reserve-clause-book : goal.returns-in_err-reserve-clause-book
returns-in_err-reserve-clause-book c = λ lines sessions primary book. book_same lines sessions primary c.args.self.now _ book c.reserve.ensures.items refl

pub returns-clause-same : goal.returns-clause-same
returns-clause-same c = λ s found. let h = c.make_room_in.ensures.same s found in record { after = h.after; sessions = h.sessions; same = h.same }

pub returns-clause-book : goal.returns-clause-book
returns-clause-book c = λ lines sessions primary book.
    let own = stands_there c.args.self.now.sessions.items c.args.session c.requires in
    let h = c.make_room_in.ensures.same own.0 own.1 in
    book_put lines sessions primary c.args.self.now c.make_room_in.new.self c.args.session h.after book (ap (λ (l : Listed Answer). l.items) c.make_room_in.ensures.answers ∙ c.reserve.ensures.items) h.sessions
    (same_session lines sessions primary c.args.self.now.answers.items c.args.session own.0 (book.each c.args.session own.0 own.1) h.after h.same.rest h.same.formers h.same.waits)
