use Rattle.mp_desk.proofs.HeldPlans.{desk_plans, desk_refuses}
use Rattle.mp_desk.proofs.desk.Desk.plan_held.Goals as goal

pub returns-clause-plan : goal.returns-clause-plan
returns-clause-plan c =
    desk_plans c.args.self.now.pool c.over-held.result c.plan_write.new.pager c.over-held.ensures c.args.self.now.undo c.args.write.now c.plan_write.new.plan c.plan_write.result c.plan_write.ensures.asks.same c.plan_write.ensures.written

pub returns-clause-refused : goal.returns-clause-refused
returns-clause-refused c =
    desk_refuses c.args.self.now.pool c.over-held.result c.plan_write.new.pager c.over-held.ensures c.args.write.now.key c.args.self.now.undo c.plan_write.result c.plan_write.ensures.asks c.plan_write.ensures.by
