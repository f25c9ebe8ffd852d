use Rattle.std.proofs.Common.{subst, arith}
use Rattle.mp_tree.specs.declared.write.PlanRefusal.{PlanRefusal}
use Rattle.mp_desk.specs.Planned.{RefusesHeld}
use Rattle.mp_desk.proofs.Moving.{looks_go}
use Rattle.mp_desk.proofs.AtDesk.{desk_planned, undo_planned, brings_planned, brings_both, brings_upto, wait_later, undo_ranges}
use Rattle.mp_desk.proofs.Walking.{shown_tree}
use Rattle.mp_desk.proofs.HeldPlans.{way_kept, undo_kept, lacks_meta}
use Rattle.mp_desk.proofs.desk.Desk.plan_put.Goals as goal

pub plan_held-requires-clause-undo : goal.plan_held-requires-clause-undo
plan_held-requires-clause-undo g c = undo_ranges c.args.shared.now c.fetch_undo.new.self c.args.p c.fetch_undo.new.node c.fetch_undo.ensures.desk

pub returns-in-Ok-clause-desk : goal.returns-in-Ok-clause-desk
returns-in-Ok-clause-desk g c = desk_planned c.args.shared.now c.args.p c.fetch_undo.new.node c.fetch_undo.new.self c.plan_held.new.self c.plan_held.ensures.rest c.fetch_undo.ensures.desk

pub returns-in-Ok-clause-brings : goal.returns-in-Ok-clause-brings
returns-in-Ok-clause-brings g c =
    brings_upto c.args.p 1 2 c.args.self.now c.plan_held.new.self c.args.node.now c.fetch_undo.new.node (omega arith)
    (brings_planned 1 c.args.p c.args.self.now c.fetch_undo.new.self c.plan_held.new.self c.args.node.now c.fetch_undo.new.node c.plan_held.ensures.rest c.fetch_undo.ensures.brings)

pub returns-in-Err-Full-clause-desk : goal.returns-in-Err-Full-clause-desk
returns-in-Err-Full-clause-desk g c = desk_planned c.args.shared.now c.args.p c.fetch_undo.new.node c.fetch_undo.new.self c.plan_held.new.self c.plan_held.ensures.rest c.fetch_undo.ensures.desk

pub returns-in-Err-Full-clause-brings : goal.returns-in-Err-Full-clause-brings
returns-in-Err-Full-clause-brings g c =
    brings_upto c.args.p 1 2 c.args.self.now c.plan_held.new.self c.args.node.now c.fetch_undo.new.node (omega arith)
    (brings_planned 1 c.args.p c.args.self.now c.fetch_undo.new.self c.plan_held.new.self c.args.node.now c.fetch_undo.new.node c.plan_held.ensures.rest c.fetch_undo.ensures.brings)

pub fetch-requires-clause-desk : goal.fetch-requires-clause-desk
fetch-requires-clause-desk g c = desk_planned c.args.shared.now c.args.p c.fetch_undo.new.node c.fetch_undo.new.self c.plan_held.new.self c.plan_held.ensures.rest c.fetch_undo.ensures.desk

pub returns-in-Err-fetch-clause-brings : goal.returns-in-Err-fetch-clause-brings
returns-in-Err-fetch-clause-brings g c =
    brings_both c.args.p 1 1 c.args.self.now c.plan_held.new.self c.fetch.new.self c.args.node.now c.fetch_undo.new.node c.fetch.new.node
    (brings_planned 1 c.args.p c.args.self.now c.fetch_undo.new.self c.plan_held.new.self c.args.node.now c.fetch_undo.new.node c.plan_held.ensures.rest c.fetch_undo.ensures.brings) c.fetch.ensures.brings

pub returns-in-Err-fetch-clause-refused : goal.returns-in-Err-fetch-clause-refused
returns-in-Err-fetch-clause-refused g c =
    wait_later c.args.p c.args.node.now c.fetch_undo.new.node c.fetch.new.node c.in-Err-fetch.wait (looks_go c.args.p c.args.node.now c.fetch_undo.new.node c.fetch_undo.ensures.brings.looked) c.in-Err-fetch.ensures.cause

pub plan_held-requires-2-clause-undo : goal.plan_held-requires-2-clause-undo
plan_held-requires-2-clause-undo g c = undo_ranges c.args.shared.now c.fetch.new.self c.args.p c.fetch.new.node c.fetch.ensures.desk

pub unreachable-requires : goal.unreachable-requires
unreachable-requires g c =
    let first = brings_planned 1 c.args.p c.args.self.now c.fetch_undo.new.self c.plan_held.new.self c.args.node.now c.fetch_undo.new.node c.plan_held.ensures.rest c.fetch_undo.ensures.brings in
    let both = brings_both c.args.p 1 1 c.args.self.now c.plan_held.new.self c.fetch.new.self c.args.node.now c.fetch_undo.new.node c.fetch.new.node first c.fetch.ensures.brings in
    let here = undo_kept c.fetch_undo.new.self c.fetch.new.self (undo_planned c.fetch_undo.new.self c.plan_held.new.self c.fetch.new.self c.plan_held.ensures.rest c.fetch.ensures.brings.desk) c.in_default.ensures.here in
    c.in_default-fetch.ensures.here.0
    (lacks_meta c.fetch.new.self.pool c.args.write.now.key c.requires.way.0 c.fetch.new.self.undo c.in-Err-NotYet-plan_held.field-0-0 (way_kept c.args.self.now c.fetch.new.self both.desk c.args.write.now.key c.requires.way.0 c.requires.way.1) here
    (shown_tree c.args.shared.now c.fetch.new.self c.args.p c.fetch.new.node c.fetch.ensures.desk)
    (subst (λ (r : PlanRefusal). RefusesHeld c.fetch.new.self.pool c.args.write.now.key c.fetch.new.self.undo r) c.in-Err-NotYet-plan_held.field-0-is c.in-Err-NotYet-plan_held.ensures.refused))

pub returns-in-Ok-plan_held-clause-desk : goal.returns-in-Ok-plan_held-clause-desk
returns-in-Ok-plan_held-clause-desk g c = desk_planned c.args.shared.now c.args.p c.fetch.new.node c.fetch.new.self c.plan_held-2.new.self c.plan_held-2.ensures.rest c.fetch.ensures.desk

pub returns-in-Ok-plan_held-clause-brings : goal.returns-in-Ok-plan_held-clause-brings
returns-in-Ok-plan_held-clause-brings g c =
    brings_planned 2 c.args.p c.args.self.now c.fetch.new.self c.plan_held-2.new.self c.args.node.now c.fetch.new.node c.plan_held-2.ensures.rest
    (brings_both c.args.p 1 1 c.args.self.now c.plan_held.new.self c.fetch.new.self c.args.node.now c.fetch_undo.new.node c.fetch.new.node
    (brings_planned 1 c.args.p c.args.self.now c.fetch_undo.new.self c.plan_held.new.self c.args.node.now c.fetch_undo.new.node c.plan_held.ensures.rest c.fetch_undo.ensures.brings) c.fetch.ensures.brings)

pub returns-in-Err-Full-plan_held-clause-desk : goal.returns-in-Err-Full-plan_held-clause-desk
returns-in-Err-Full-plan_held-clause-desk g c = desk_planned c.args.shared.now c.args.p c.fetch.new.node c.fetch.new.self c.plan_held-2.new.self c.plan_held-2.ensures.rest c.fetch.ensures.desk

pub returns-in-Err-Full-plan_held-clause-brings : goal.returns-in-Err-Full-plan_held-clause-brings
returns-in-Err-Full-plan_held-clause-brings g c =
    brings_planned 2 c.args.p c.args.self.now c.fetch.new.self c.plan_held-2.new.self c.args.node.now c.fetch.new.node c.plan_held-2.ensures.rest
    (brings_both c.args.p 1 1 c.args.self.now c.plan_held.new.self c.fetch.new.self c.args.node.now c.fetch_undo.new.node c.fetch.new.node
    (brings_planned 1 c.args.p c.args.self.now c.fetch_undo.new.self c.plan_held.new.self c.args.node.now c.fetch_undo.new.node c.plan_held.ensures.rest c.fetch_undo.ensures.brings) c.fetch.ensures.brings)
