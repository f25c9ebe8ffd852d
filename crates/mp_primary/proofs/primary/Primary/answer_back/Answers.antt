use Rattle.std.proofs.Common.{◌≡◌, Some, refl, inr}
use Rattle.mp_primary.proofs.BackEnds.{may_end_inside, answered_inside, next_inside, none_down_inside, is_book_inside, reply_asked, answer_asked}
use Rattle.mp_primary.proofs.primary.Primary.answer_back.Goals as goal

pub free-requires-clause-may : goal.free-requires-clause-may
free-requires-clause-may g c =
    let own = c.requires.comes in
    may_end_inside g.D.Disk c.args.shared.now _ c.args.self.now c.self.view_is c.args.node.now c.args.number c.requires.up own.0 c.args.trx own.4 own.2.stands own.2.next.found c.requires.all

pub reply_back-reply-requires : goal.reply_back-reply-requires
reply_back-reply-requires g c =
    let own = c.requires.comes in
    record { next = reply_asked g.D.Disk c.args.shared.now c.args.self.now c.args.self.now refl c.args.node.now c.args.number c.requires.up own.0 own.1 own.2 own.3 }

pub answer-requires-clause-next : goal.answer-requires-clause-next
answer-requires-clause-next g c =
    let own = c.requires.comes in
    answer_asked g.D.Disk c.args.shared.now _ c.args.self.now c.self.view_is c.args.node.now c.args.number c.requires.up own.0 own.1 own.2 own.3 c.requires.all c.reply_back-reply.result (c.reply_back-reply.ensures own.0 own.1 own.2.next)

pub returns : goal.returns
returns g c =
    let own = c.requires.comes in
    answered_inside g.D.Disk c.args.shared.now _ c.args.self.now c.self.view_is c.args.node.now c.args.number c.requires.up own.0 c.args.trx own.4 own.2.stands own.2.next.found c.requires.all c.free.new.node c.free.ensures.becomes c.free.ensures.reached
    own.1 own.2.next own.2.room c.reply_back-reply.result (c.reply_back-reply.ensures own.0 own.1 own.2.next) c.answer.new.self
    (c.answer.ensures.answered own.0 own.1 (next_inside g.D.Disk c.args.shared.now _ c.args.self.now c.self.view_is c.args.node.now c.args.number c.requires.up own.0 own.1 own.2))
    (c.answer.ensures.book _ _ _ (is_book_inside g.D.Disk c.args.shared.now _ c.args.self.now c.self.view_is c.args.node.now c.args.number c.requires.up own.0 own.1 own.2) (inr (none_down_inside g.D.Disk c.args.shared.now _ c.args.self.now c.self.view_is c.args.node.now c.args.number c.requires.up own.0 own.1 own.2)))
