use Rattle.mp_primary.proofs.DownTellings.{told_inside}
use Rattle.mp_primary.proofs.primary.Primary.tell_down.Goals as goal

pub returns-then-self-ne0 : goal.returns-then-self-ne0
returns-then-self-ne0 g c = told_inside g.D.Disk c.args.shared.now _ c.args.self.now c.self.view_is c.args.node.now c.requires c.store_down.new.node c.store_down.ensures.stored c.store_down.ensures.step.1.reached
