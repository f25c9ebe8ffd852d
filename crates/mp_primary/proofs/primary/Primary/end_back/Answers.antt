use Rattle.std.proofs.Common.{◌≡◌, Some, refl, sym, ap, subst, ◌∙◌, inr}
use Rattle.mp_book.specs.Stages.{trx_of_stage}
use Rattle.mp_primary.proofs.BackEnds.{busy_by, leaving_task, may_end_inside, unprinted_inside}
use Rattle.mp_primary.proofs.primary.Primary.end_back.Goals as goal

pub free-requires-clause-may : goal.free-requires-clause-may
free-requires-clause-may g c =
    let leaving = c.requires.leaving in
    may_end_inside g.D.Disk c.args.shared.now _ c.args.self.now c.self.view_is c.args.node.now c.args.number c.requires.up leaving.0 c.args.trx (ap trx_of_stage leaving.2) c.requires.stands leaving.1 c.requires.all

pub returns : goal.returns
returns g c =
    let leaving = c.requires.leaving in
    let busy = busy_by c.args.self.now c.args.number leaving.0 leaving.1 (leaving_task leaving.0 c.args.trx leaving.2 leaving.3) in
    unprinted_inside g.D.Disk c.args.shared.now _ c.args.self.now c.self.view_is c.args.node.now c.args.number c.requires.up leaving.0 c.args.trx (ap trx_of_stage leaving.2) c.requires.stands leaving.1 c.requires.all
    c.free.new.node c.free.ensures.becomes c.free.ensures.reached leaving.3 busy c.close.new.self c.close.ensures.rest (c.close.ensures.closed leaving.0 leaving.1) (c.close.ensures.book _ _ _ c.requires.stands.primary.book)

pub close-requires : goal.close-requires
close-requires g c =
    let leaving = c.requires.leaving in
    record { left = (leaving.0, leaving.1, leaving.3, inr (c.args.trx, leaving.2, c.requires.all leaving.0 leaving.1)) }
