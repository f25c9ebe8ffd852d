use Rattle.mp_desk.proofs.HeldPlans.{desk_backs}
use Rattle.mp_desk.proofs.desk.Desk.plan_back.Goals as goal

pub returns-clause-plan : goal.returns-clause-plan
returns-clause-plan c =
    desk_backs c.args.self.now.pool c.over-held.result c.plan_restore-planned.new.pager c.over-held.ensures c.args.row.now c.plan_restore-planned.new.plan c.requires.way.0 c.requires.way.1 c.plan_restore-planned.result c.plan_restore-planned.ensures.asks c.plan_restore-planned.ensures.plan
