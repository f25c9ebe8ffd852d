use Rattle.std.proofs.Common.{subst, ◌∙◌, arith}
use Rattle.mp_tree.specs.declared.write.PlanRefusal.{PlanRefusal}
use Rattle.mp_desk.specs.Planned.{RefusesPlan}
use Rattle.mp_desk.proofs.Moving.{looks_go}
use Rattle.mp_desk.proofs.AtDesk.{brings_both, brings_upto, wait_later}
use Rattle.mp_desk.proofs.WritePlanned.{plans_kept, plan_range, plan_full}
use Rattle.mp_desk.proofs.desk.Desk.plan_taken.Goals as goal

pub returns-in-Err-Full-clause-brings : goal.returns-in-Err-Full-clause-brings
returns-in-Err-Full-clause-brings g c = brings_upto c.args.p 2 22 c.args.self.now c.plan_put.new.self c.args.node.now c.plan_put.new.node (omega arith) c.plan_put.ensures.brings

pub returns-in-Err-Full-clause-cause : goal.returns-in-Err-Full-clause-cause
returns-in-Err-Full-clause-cause g c =
    plan_full c.args.shared.now c.args.p 2 c.args.self.now c.plan_put.new.self c.args.node.now c.plan_put.new.node _ _ c.requires.desk c.requires.afresh c.plan_put.ensures.brings
    (subst (λ (r : PlanRefusal). RefusesPlan c.args.p c.plan_put.new.self.pool c.args.node.now c.plan_put.new.node r) c.in-Err-Full.field-0-is c.in-Err-Full.ensures.refused)

pub returns-in-Err-NotYet-clause-brings : goal.returns-in-Err-NotYet-clause-brings
returns-in-Err-NotYet-clause-brings g c = brings_upto c.args.p 2 22 c.args.self.now c.plan_put.new.self c.args.node.now c.plan_put.new.node (omega arith) c.plan_put.ensures.brings

pub take_all-requires-clause-range : goal.take_all-requires-clause-range
take_all-requires-clause-range g c = plan_range c.args.shared.now c.plan_put.new.self c.args.p c.plan_put.new.node c.plan_put.ensures.desk c.args.write.now c.in-Ok.ensures.plan

pub take_all-requires-clause-room : goal.take_all-requires-clause-room
take_all-requires-clause-room g c = let few = c.plan_put.ensures.brings.few in let room = c.requires.room in omega (arith, few, room)

pub returns-in-Ok-take_all-clause-brings : goal.returns-in-Ok-take_all-clause-brings
returns-in-Ok-take_all-clause-brings g c = brings_both c.args.p 2 20 c.args.self.now c.plan_put.new.self c.take_all.new.self c.args.node.now c.plan_put.new.node c.take_all.new.node c.plan_put.ensures.brings c.take_all.ensures.brings

pub returns-in-Ok-take_all-clause-mtr : goal.returns-in-Ok-take_all-clause-mtr
returns-in-Ok-take_all-clause-mtr g c = c.take_all.ensures.mtr ∙ c.plan_put.ensures.mtr

pub returns-in-Ok-take_all-clause-plan : goal.returns-in-Ok-take_all-clause-plan
returns-in-Ok-take_all-clause-plan g c = plans_kept c.plan_put.new.self c.take_all.new.self c.take_all.ensures.brings.desk c.take_all.ensures.plan c.args.write.now c.in-Ok.ensures.plan

pub returns-in-Err-clause-brings : goal.returns-in-Err-clause-brings
returns-in-Err-clause-brings g c = brings_both c.args.p 2 20 c.args.self.now c.plan_put.new.self c.take_all.new.self c.args.node.now c.plan_put.new.node c.take_all.new.node c.plan_put.ensures.brings c.take_all.ensures.brings

pub returns-in-Err-clause-mtr : goal.returns-in-Err-clause-mtr
returns-in-Err-clause-mtr g c = c.take_all.ensures.mtr ∙ c.plan_put.ensures.mtr

pub returns-in-Err-clause-cause : goal.returns-in-Err-clause-cause
returns-in-Err-clause-cause g c = wait_later c.args.p c.args.node.now c.plan_put.new.node c.take_all.new.node c.in-Err.wait (looks_go c.args.p c.args.node.now c.plan_put.new.node c.plan_put.ensures.brings.looked) c.in-Err.ensures.cause
