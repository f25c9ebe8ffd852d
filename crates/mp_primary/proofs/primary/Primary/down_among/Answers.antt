use Rattle.mp_primary.proofs.DownTellings.{tried_on}
use Rattle.mp_primary.proofs.Lookings.{one_down, up_more}
use Rattle.mp_primary.proofs.primary.Primary.down_among.Goals as goal

pub returns-then-by-ne0 : goal.returns-then-by-ne0
returns-then-by-ne0 g c = one_down c.args.self.now c.args.cause c.args.node.now c.loop-of.node c.look_at-by.new.node c.loop-of.of c.look_at-by.result c.loop-of.invariant.1 c.look_at-by.ensures c.if-by-ne0.true

pub loop-of-preserved : goal.loop-of-preserved
loop-of-preserved g c = (
  tried_on g.D.Disk c.args.shared.now c.args.self.now c.loop-of.node c.look_at-by.new.node c.loop-of.invariant.0 c.look_at-by.ensures.loads c.look_at-by.ensures.reached,
  up_more c.args.self.now c.args.cause c.args.node.now c.loop-of.node c.look_at-by.new.node c.loop-of.of c.look_at-by.result c.loop-of.invariant.1 c.look_at-by.ensures c.if-by-ne0.false,
)
