use Rattle.std.proofs.Common.{refl}
use Rattle.mp_primary.proofs.Lookings.{stays_up, may_follow_inside, falls_inside}
use Rattle.mp_primary.proofs.primary.Primary.heed_cause.Goals as goal

pub returns-then-by-eq0-clause-stays : goal.returns-then-by-eq0-clause-stays
returns-then-by-eq0-clause-stays g c = λ same.
    let up = stays_up g.D.Disk c.args.shared.now c.args.self.now c.args.cause c.args.node.now c.down_among-by.new.node c.down_among-by.result c.requires.tried c.requires.up c.down_among-by.ensures c.if-by-eq0.true in
    (refl, up.0, up.1)

pub store_down-requires-clause-step : goal.store_down-requires-clause-step
store_down-requires-clause-step g c =
    may_follow_inside g.D.Disk c.args.shared.now _ c.args.self.now c.self.view_is c.args.cause c.args.node.now c.down_among-by.new.node c.down_among-by.result c.requires.tried c.requires.up c.down_among-by.ensures c.if-by-eq0.false

pub returns-clause-down : goal.returns-clause-down
returns-clause-down g c = λ same.
    falls_inside g.D.Disk c.args.shared.now _ c.args.self.now c.self.view_is c.args.cause c.args.node.now c.down_among-by.new.node c.down_among-by.result c.requires.tried c.requires.up c.down_among-by.ensures c.if-by-eq0.false
    c.store_down.new.node c.store_down.ensures.stored c.store_down.ensures.step.1.reached
