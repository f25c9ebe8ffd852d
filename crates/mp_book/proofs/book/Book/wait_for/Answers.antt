use Rattle.std.proofs.Common.{◌≡◌, true, is_some, Some, slice_get, sym, ap, refl, subst}
use Rattle.std.specs.Option.{IfSome}
use Rattle.mp_script.specs.declared.statements.Line.{Line}
use Rattle.mp_script.specs.Transactions.{target_of}
use Rattle.mp_book.specs.declared.session.Session.{Session}
use Rattle.mp_book.specs.Stages.{next_line}
use Rattle.mp_book.specs.Answered.{execution_above, WaitsStand}
use Rattle.mp_book.proofs.Items.{one_item}
use Rattle.mp_book.proofs.Changes.{book_set, waiting}
use Rattle.mp_book.proofs.book.Book.wait_for.Goals as goal

pub returns-clause-book : goal.returns-clause-book
returns-clause-book c = λ lines sessions primary s line book next here.
    let asked = c.requires.next in
    let session : asked.0 ≡ s = one_item (slice_get c.args.self.now.sessions.items c.args.session) asked.0 s asked.2.found next.found in
    let statement : asked.1 ≡ line = one_item (next_line s) asked.1 line (subst (λ (x : Session). next_line x ≡ Some asked.1) session asked.2.next) next.next in
    let write = subst (λ (l : Line). is_some (target_of l.stmt) ≡ true) statement asked.3 in
    let noted = c.note_wait.ensures.named s next.found in
    book_set lines sessions primary c.args.self.now c.note_wait.new.self c.args.session noted.after book noted.sets
    (waiting lines sessions primary c.args.self.now.answers.items c.args.session s (book.each c.args.session s next.found) noted.after line c.args.name next.next write here noted.rest noted.waits)
