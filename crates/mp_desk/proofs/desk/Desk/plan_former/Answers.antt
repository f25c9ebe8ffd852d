use Rattle.std.proofs.Common.{length, ap, ◌∙◌, arith}
use Rattle.mp_shared.proofs.Holding.{held_part}
use Rattle.mp_desk.specs.declared.desk.Desk.{Desk}
use Rattle.mp_desk.specs.Desks.{Brings}
use Rattle.mp_desk.proofs.Moving.{looks_go}
use Rattle.mp_desk.proofs.AtDesk.{brings_both, brings_upto, brings_planned, desk_planned}
use Rattle.mp_desk.proofs.Fetched.{waits_later}
use Rattle.mp_desk.proofs.PuttingBack.{former_row, back_range, back_well, backs_on}
use Rattle.mp_desk.proofs.PutBackRows.{moves_quiet_looked, former_on, on_ok_map}
use Rattle.mp_desk.proofs.desk.Desk.plan_former.Goals as goal

pub returns-in-Err-clause-brings : goal.returns-in-Err-clause-brings
returns-in-Err-clause-brings g c = brings_upto c.args.p 3 23 c.args.self.now c.leaf.new.self c.args.node.now c.leaf.new.node (omega arith) c.leaf.ensures.brings

pub plan_back-requires-clause-row : goal.plan_back-requires-clause-row
plan_back-requires-clause-row g c =
    let held = held_part c.args.node.now c.args.p c.requires.desk.part in
    former_row c.args.node.now c.requires.desk.reached c.args.p held.0 held.1 c.args.id c.args.row.now (c.requires.former held.0 held.1)

pub plan_back-requires-clause-way : goal.plan_back-requires-clause-way
plan_back-requires-clause-way g c = (c.in-Ok.number, c.in-Ok.ensures.way)

pub take_all-requires-clause-desk : goal.take_all-requires-clause-desk
take_all-requires-clause-desk g c = (desk_planned c.args.shared.now c.args.p c.leaf.new.node c.leaf.new.self c.plan_back.new.self c.plan_back.ensures.rest c.leaf.ensures.desk)

pub take_all-requires-clause-range : goal.take_all-requires-clause-range
take_all-requires-clause-range g c =
    back_range c.args.shared.now c.plan_back.new.self c.args.p c.leaf.new.node (desk_planned c.args.shared.now c.args.p c.leaf.new.node c.leaf.new.self c.plan_back.new.self c.plan_back.ensures.rest c.leaf.ensures.desk) c.args.id c.args.row.now (former_on c.args.p c.args.id c.args.row.now c.args.node.now c.leaf.new.node c.requires.desk.part (moves_quiet_looked c.args.p c.args.node.now c.leaf.new.node c.leaf.ensures.brings.looked) c.requires.former) c.plan_back.ensures.plan

pub take_all-requires-clause-room : goal.take_all-requires-clause-room
take_all-requires-clause-room g c =
    let few = c.leaf.ensures.brings.few in
    let same = ap (λ (d : Desk). length d.pool) c.plan_back.ensures.rest in
    let room = c.requires.room in
    omega (arith, few, same, room)

pub returns-clause-brings : goal.returns-clause-brings
returns-clause-brings g c =
    brings_both c.args.p 3 20 c.args.self.now c.plan_back.new.self c.take_all.new.self c.args.node.now c.leaf.new.node c.take_all.new.node (brings_planned 3 c.args.p c.args.self.now c.leaf.new.self c.plan_back.new.self c.args.node.now c.leaf.new.node c.plan_back.ensures.rest c.leaf.ensures.brings) c.take_all.ensures.brings

pub returns-clause-mtr : goal.returns-clause-mtr
returns-clause-mtr g c = c.take_all.ensures.mtr ∙ ap (λ (d : Desk). d.mtr) c.plan_back.ensures.rest ∙ c.leaf.ensures.rest.1

pub returns-clause-planned : goal.returns-clause-planned
returns-clause-planned g c =
    let whole : Brings 23 c.args.p c.args.self.now c.take_all.new.self c.args.node.now c.take_all.new.node =
    brings_both c.args.p 3 20 c.args.self.now c.plan_back.new.self c.take_all.new.self c.args.node.now c.leaf.new.node c.take_all.new.node (brings_planned 3 c.args.p c.args.self.now c.leaf.new.self c.plan_back.new.self c.args.node.now c.leaf.new.node c.plan_back.ensures.rest c.leaf.ensures.brings) c.take_all.ensures.brings in
    let former = former_on c.args.p c.args.id c.args.row.now c.args.node.now c.take_all.new.node c.requires.desk.part (moves_quiet_looked c.args.p c.args.node.now c.take_all.new.node whole.looked) c.requires.former in
    let backs = backs_on c.plan_back.new.self c.take_all.new.self c.take_all.ensures.brings.desk c.take_all.ensures.plan c.args.row.now c.plan_back.ensures.plan in
    on_ok_map c.take_all.result c.take_all.ensures.taken
    (λ taken. record { well = back_well c.args.shared.now c.take_all.new.self c.args.p c.take_all.new.node c.take_all.ensures.desk c.args.id c.args.row.now former backs taken; taken = taken })

pub returns-clause-cause : goal.returns-clause-cause
returns-clause-cause g c =
    waits_later c.args.p c.args.node.now c.leaf.new.node c.take_all.new.node (looks_go c.args.p c.args.node.now c.leaf.new.node c.leaf.ensures.brings.looked) c.take_all.result c.take_all.ensures.cause
