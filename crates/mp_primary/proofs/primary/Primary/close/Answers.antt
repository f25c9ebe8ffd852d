use Rattle.std.proofs.Common.{◌≡◌, Some}
use Rattle.mp_book.specs.declared.stage.Stage.TheVariants.{Closed}
use Rattle.mp_primary.proofs.BackEnds.{closed_there, closes_inside, book_inside}
use Rattle.mp_primary.proofs.primary.Primary.close.Goals as goal

pub forget_waits-requires : goal.forget_waits-requires
forget_waits-requires g c =
    let left = c.requires.left in
    (record (left.0) { stage = Closed }, closed_there _ c.args.self.now c.self.view_is c.args.number left.0 left.1 c.end_unprinted.new.self c.end_unprinted.ensures.set)

pub returns-clause-closed : goal.returns-clause-closed
returns-clause-closed g c s found = closes_inside _ c.args.self.now c.self.view_is c.args.number s found c.end_unprinted.new.self c.end_unprinted.ensures.set c.forget_waits.new.self.book c.forget_waits.ensures.forgot

pub returns-clause-book : goal.returns-clause-book
returns-clause-book g c lines sessions primary book =
    let left = c.requires.left in
    book_inside _ c.args.self.now c.self.view_is c.args.number left.0 left.1 c.end_unprinted.new.self c.end_unprinted.ensures.set c.forget_waits.new.self.book c.forget_waits.ensures.forgot lines sessions primary left.2 (c.end_unprinted.ensures.book lines sessions primary) book
