use Rattle.mp_primary.proofs.TakenTurns.{heeded_taken, line_tried, stop_comes, stop_taken}
use Rattle.mp_primary.proofs.primary.Primary.end_line.Goals as goal

pub heed-requires : goal.heed-requires
heed-requires g c =
    let o = c.requires.tried in
    record { tried = line_tried g.D.Disk c.args.shared.now o.0 c.args.self.now o.1 c.args.node.now c.args.number o.2 o.3 c.args.turn o.4 }

pub stop-requires-clause-comes : goal.stop-requires-clause-comes
stop-requires-clause-comes g c =
    let o = c.requires.tried in
    let comes = stop_comes g.D.Disk c.args.shared.now o.0 c.args.self.now o.1 c.args.node.now c.args.number o.2 o.3 c.args.turn o.4 c.heed.new.self c.heed.new.node (c.heed.ensures.down c.if-heed.true) in
    (c.args.shared.now, c.heed.new.node, comes.0, o.3, comes.1)

pub returns-then-heed : goal.returns-then-heed
returns-then-heed g c = λ old before s line tried.
    stop_taken g.D.Disk c.args.shared.now old c.args.self.now before c.args.node.now c.args.number s line c.args.turn tried c.heed.new.self c.heed.new.node (c.heed.ensures.down c.if-heed.true)
    c.stop.new.self c.stop.result c.stop.ensures.answered c.stop.ensures.stops c.stop.ensures.told

pub returns-else-heed : goal.returns-else-heed
returns-else-heed g c = λ old before s line tried.
    heeded_taken g.D.Disk c.args.shared.now old c.args.self.now before c.args.node.now c.args.number c.args.turn tried.comes.stands tried.told tried.tries c.heed.new.self c.heed.new.node (c.heed.ensures.stays c.if-heed.false)
