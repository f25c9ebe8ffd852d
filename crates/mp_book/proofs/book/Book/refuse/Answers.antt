use Rattle.std.proofs.Common.{◌≡◌, true, is_some, Some, slice_get, subst}
use Rattle.mp_script.specs.declared.statements.Line.{Line}
use Rattle.mp_script.specs.Transactions.{target_of}
use Rattle.mp_book.specs.declared.session.Session.{Session}
use Rattle.mp_book.specs.declared.stage.Stage.TheVariants.{Open, Refused}
use Rattle.mp_book.specs.Stages.{next_line}
use Rattle.mp_book.proofs.Items.{one_item}
use Rattle.mp_book.proofs.Changes.{book_set, refused_set}
use Rattle.mp_book.proofs.book.Book.refuse.Goals as goal

pub returns-clause-book : goal.returns-clause-book
returns-clause-book c = λ lines sessions primary s line book next stands.
    let asked = c.requires.next in
    let session : asked.0 ≡ s = one_item (slice_get c.args.self.now.sessions.items c.args.session) asked.0 s asked.2.found next.found in
    let statement : asked.1 ≡ line = one_item (next_line s) asked.1 line (subst (λ (x : Session). next_line x ≡ Some asked.1) session asked.2.next) next.next in
    let stage = subst (λ (x : Session). x.stage ≡ Open c.args.trx) session asked.3 in
    let write = subst (λ (l : Line). is_some (target_of l.stmt) ≡ true) statement asked.4 in
    book_set lines sessions primary c.args.self.now c.set_stage.new.self c.args.session (record s { stage = Refused c.args.trx c.args.refusal }) book (c.set_stage.ensures.set s next.found)
    (refused_set lines sessions primary c.args.self.now.answers.items c.args.session s (book.each c.args.session s next.found) line c.args.trx c.args.refusal next.next stage write stands)
