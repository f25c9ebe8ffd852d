use Rattle.std.proofs.Common.{refl, sym, ap, subst, ◌∙◌, inl, inr, arith}
use Rattle.mp_cells.specs.declared.records.Mtr.{Mtr}
use Rattle.mp_core_pages.specs.declared.opening.TheConstants.{MOST_MTRS}
use Rattle.mp_core.specs.OwnMtrs.{row_put_by, row_restored_by, trx_of_mtr}
use Rattle.mp_shared.specs.Nodes.{NodeView}
use Rattle.mp_shared.proofs.Holding.{held_part}
use Rattle.mp_desk.specs.declared.desk.Desk.{Desk}
use Rattle.mp_desk.specs.Desks.{Moves}
use Rattle.mp_desk.specs.Statements.{StaysQuiet}
use Rattle.mp_desk.proofs.AtDesk.{wait_later}
use Rattle.mp_desk.proofs.TrxAlong.{media_looked}
use Rattle.mp_desk.proofs.PuttingBack.{may_back, back_restored, back_put, back_of}
use Rattle.mp_desk.proofs.PutBackRows.{moves_quiet_none, moves_quiet, moves_quiet_looked, moves_quiet_forced, former_on, few_quiet, moves_back}
use Rattle.mp_desk.proofs.BackSteps.{open_more, rose_later, moves_goes}
use Rattle.mp_desk.proofs.desk.Desk.put_back.Goals as goal

pub returns-in-Err-clause-own : goal.returns-in-Err-clause-own
returns-in-Err-clause-own g c = ap (λ (d : Desk). d.mtr.node) c.have_room.ensures.rest ∙ c.requires.own

pub returns-in-Err-clause-quiet : goal.returns-in-Err-clause-quiet
returns-in-Err-clause-quiet g c = subst (λ (n : NodeView). Moves StaysQuiet c.args.p c.args.node.now n) (sym c.in-Err.ensures.refused) (moves_quiet_none c.args.p c.args.node.now)

pub returns-in-Err-clause-still_open : goal.returns-in-Err-clause-still_open
returns-in-Err-clause-still_open g c = inl (refl, c.in-Err.ensures.closed, c.in-Err.ensures.counts.cause)

pub returns-in-Err-clause-media : goal.returns-in-Err-clause-media
returns-in-Err-clause-media g c work agree = inr (refl, (c.in-Err.ensures.media work agree).1)

pub returns-in-Err-clause-counted : goal.returns-in-Err-clause-counted
returns-in-Err-clause-counted g c = c.in-Err.ensures.counts.no_fall

pub make_room-requires-clause-log : goal.make_room-requires-clause-log
make_room-requires-clause-log g c = (c.have_room.new.self.llsn, c.in_default.ensures.open)

pub make_room-requires-clause-agrees : goal.make_room-requires-clause-agrees
make_room-requires-clause-agrees g c =
    let work = c.requires.agrees.0 in
    let agree = c.requires.agrees.1 in
    (work, (c.in_default.ensures.media work agree).0)

pub returns-in-Err-make_room-clause-desk : goal.returns-in-Err-make_room-clause-desk
returns-in-Err-make_room-clause-desk g c = c.make_room.ensures.desk c.have_room.new.self c.have_room.ensures.desk

pub returns-in-Err-make_room-clause-own : goal.returns-in-Err-make_room-clause-own
returns-in-Err-make_room-clause-own g c = ap (λ (d : Desk). d.mtr.node) c.have_room.ensures.rest ∙ c.requires.own

pub returns-in-Err-make_room-clause-quiet : goal.returns-in-Err-make_room-clause-quiet
returns-in-Err-make_room-clause-quiet g c = subst (λ (n : NodeView). Moves StaysQuiet c.args.p c.args.node.now n) (sym c.in-Err-make_room.ensures.refused) c.in_default.ensures.quiet

pub returns-in-Err-make_room-clause-still_open : goal.returns-in-Err-make_room-clause-still_open
returns-in-Err-make_room-clause-still_open g c =
    inl (
      refl,
      c.in-Err-make_room.ensures.closed,
      rose_later (g.D.Disk.faults c.args.media.now.log.disk) (g.D.Disk.faults c.have_room.new.media.log.disk) (g.D.Disk.faults c.make_room.new.self.log.disk) c.have_room.ensures.counts.no_fall c.in-Err-make_room.ensures.counts.cause,
    )

pub returns-in-Err-make_room-clause-media : goal.returns-in-Err-make_room-clause-media
returns-in-Err-make_room-clause-media g c work agree = inr (refl, (c.in-Err-make_room.ensures.agrees work (c.in_default.ensures.media work agree).0).1)

pub returns-in-Err-make_room-clause-counted : goal.returns-in-Err-make_room-clause-counted
returns-in-Err-make_room-clause-counted g c = let one = c.have_room.ensures.counts.no_fall in let two = c.make_room.ensures.counts.no_fall in omega (arith, one, two)

pub plan_former-requires-clause-desk : goal.plan_former-requires-clause-desk
plan_former-requires-clause-desk g c = c.make_room.ensures.desk c.have_room.new.self c.have_room.ensures.desk

pub plan_former-requires-clause-former : goal.plan_former-requires-clause-former
plan_former-requires-clause-former g c = former_on c.args.p c.args.id c.args.row.now c.args.node.now c.make_room.new.node c.requires.desk.part (moves_quiet c.args.p c.args.node.now c.have_room.new.node c.make_room.new.node c.in_default.ensures.quiet (moves_quiet_forced c.args.p c.have_room.new.node c.make_room.new.node c.in_default-make_room.ensures.forced)) c.requires.former

pub plan_former-requires-clause-room : goal.plan_former-requires-clause-room
plan_former-requires-clause-room g c = let room = c.in_default.ensures.room in omega (arith, room)

pub returns-in-Err-plan_former-clause-own : goal.returns-in-Err-plan_former-clause-own
returns-in-Err-plan_former-clause-own g c = ap (λ (x : Mtr). x.node) c.plan_former.ensures.mtr ∙ ap (λ (d : Desk). d.mtr.node) c.have_room.ensures.rest ∙ c.requires.own

pub returns-in-Err-plan_former-clause-quiet : goal.returns-in-Err-plan_former-clause-quiet
returns-in-Err-plan_former-clause-quiet g c = moves_quiet c.args.p c.args.node.now c.make_room.new.node c.plan_former.new.node (moves_quiet c.args.p c.args.node.now c.have_room.new.node c.make_room.new.node c.in_default.ensures.quiet (moves_quiet_forced c.args.p c.have_room.new.node c.make_room.new.node c.in_default-make_room.ensures.forced)) (moves_quiet_looked c.args.p c.make_room.new.node c.plan_former.new.node c.plan_former.ensures.brings.looked)

pub returns-in-Err-plan_former-clause-cause : goal.returns-in-Err-plan_former-clause-cause
returns-in-Err-plan_former-clause-cause g c = wait_later c.args.p c.args.node.now c.make_room.new.node c.plan_former.new.node c.in-Err-plan_former.wait (moves_goes c.args.p c.args.node.now c.make_room.new.node (moves_quiet c.args.p c.args.node.now c.have_room.new.node c.make_room.new.node c.in_default.ensures.quiet (moves_quiet_forced c.args.p c.have_room.new.node c.make_room.new.node c.in_default-make_room.ensures.forced))) c.in-Err-plan_former.ensures.cause

pub returns-in-Err-plan_former-clause-still_open : goal.returns-in-Err-plan_former-clause-still_open
returns-in-Err-plan_former-clause-still_open g c = inr (open_more c.args.p c.have_room.new.self.llsn c.plan_former.new.self.llsn c.make_room.new.self.log c.plan_former.ensures.brings.desk.llsn (c.in_default-make_room.ensures.open c.have_room.new.self.llsn c.in_default.ensures.open))

pub returns-in-Err-plan_former-clause-media : goal.returns-in-Err-plan_former-clause-media
returns-in-Err-plan_former-clause-media g c work agree = inl (media_looked g.D.Disk work c.args.p 0 c.make_room.new.self c.make_room.new.node c.plan_former.new.node (c.make_room.ensures.desk c.have_room.new.self c.have_room.ensures.desk).part c.plan_former.ensures.brings.looked (c.in_default-make_room.ensures.agrees work (c.in_default.ensures.media work agree).0).0)

pub returns-in-Err-plan_former-clause-counted : goal.returns-in-Err-plan_former-clause-counted
returns-in-Err-plan_former-clause-counted g c = let one = c.have_room.ensures.counts.no_fall in let two = c.make_room.ensures.counts.no_fall in omega (arith, one, two)

pub make_plan-requires-clause-own : goal.make_plan-requires-clause-own
make_plan-requires-clause-own g c = ap (λ (x : Mtr). x.node) c.plan_former.ensures.mtr ∙ ap (λ (d : Desk). d.mtr.node) c.have_room.ensures.rest ∙ c.requires.own

pub make_plan-requires-clause-taken : goal.make_plan-requires-clause-taken
make_plan-requires-clause-taken g c = c.in_default-plan_former.ensures.planned.taken

pub make_plan-requires-clause-may : goal.make_plan-requires-clause-may
make_plan-requires-clause-may g c =
    may_back c.plan_former.new.node c.plan_former.ensures.desk.reached c.args.p c.plan_former.new.self c.args.id c.args.row.now (former_on c.args.p c.args.id c.args.row.now c.args.node.now c.plan_former.new.node c.requires.desk.part (moves_quiet c.args.p c.args.node.now c.make_room.new.node c.plan_former.new.node (moves_quiet c.args.p c.args.node.now c.have_room.new.node c.make_room.new.node c.in_default.ensures.quiet (moves_quiet_forced c.args.p c.have_room.new.node c.make_room.new.node c.in_default-make_room.ensures.forced)) (moves_quiet_looked c.args.p c.make_room.new.node c.plan_former.new.node c.plan_former.ensures.brings.looked)) c.requires.former) c.in_default-plan_former.ensures.planned.well

pub make_plan-requires-clause-few : goal.make_plan-requires-clause-few
make_plan-requires-clause-few g c = few_quiet c.args.p MOST_MTRS c.args.node.now c.plan_former.new.node c.requires.desk.part (moves_quiet c.args.p c.args.node.now c.make_room.new.node c.plan_former.new.node (moves_quiet c.args.p c.args.node.now c.have_room.new.node c.make_room.new.node c.in_default.ensures.quiet (moves_quiet_forced c.args.p c.have_room.new.node c.make_room.new.node c.in_default-make_room.ensures.forced)) (moves_quiet_looked c.args.p c.make_room.new.node c.plan_former.new.node c.plan_former.ensures.brings.looked)) c.requires.few

pub make_plan-requires-clause-log : goal.make_plan-requires-clause-log
make_plan-requires-clause-log g c = open_more c.args.p c.have_room.new.self.llsn c.plan_former.new.self.llsn c.make_room.new.self.log c.plan_former.ensures.brings.desk.llsn (c.in_default-make_room.ensures.open c.have_room.new.self.llsn c.in_default.ensures.open)

pub make_plan-requires-clause-room : goal.make_plan-requires-clause-room
make_plan-requires-clause-room g c = c.in_default-make_room.ensures.room

pub returns-clause-back : goal.returns-clause-back
returns-clause-back g c =
    let made = c.make_plan.ensures.made in
    let desk = c.plan_former.new.self in
    let former = former_on c.args.p c.args.id c.args.row.now c.args.node.now c.plan_former.new.node c.requires.desk.part (moves_quiet c.args.p c.args.node.now c.make_room.new.node c.plan_former.new.node (moves_quiet c.args.p c.args.node.now c.have_room.new.node c.make_room.new.node c.in_default.ensures.quiet (moves_quiet_forced c.args.p c.have_room.new.node c.make_room.new.node c.in_default-make_room.ensures.forced)) (moves_quiet_looked c.args.p c.make_room.new.node c.plan_former.new.node c.plan_former.ensures.brings.looked)) c.requires.former in
    let well = c.in_default-plan_former.ensures.planned.well in
    let reached = c.plan_former.ensures.desk.reached in
    let has = held_part c.plan_former.new.node c.args.p c.plan_former.ensures.desk.part in (
      made.0,
      moves_back c.args.p c.args.id c.args.row.now made.0 c.args.node.now c.plan_former.new.node c.make_plan.new.node (moves_quiet c.args.p c.args.node.now c.make_room.new.node c.plan_former.new.node (moves_quiet c.args.p c.args.node.now c.have_room.new.node c.make_room.new.node c.in_default.ensures.quiet (moves_quiet_forced c.args.p c.have_room.new.node c.make_room.new.node c.in_default-make_room.ensures.forced)) (moves_quiet_looked c.args.p c.make_room.new.node c.plan_former.new.node c.plan_former.ensures.brings.looked)) made.2
          (ap (λ (x : Mtr). row_restored_by x) made.1 ∙ back_restored c.plan_former.new.node reached c.args.p desk c.args.id c.args.row.now former well has.0 has.1)
          (ap (λ (x : Mtr). row_put_by x) made.1 ∙ back_put c.plan_former.new.node reached c.args.p desk c.args.id c.args.row.now former well has.0 has.1)
          (λ r there. ap (λ (x : Mtr). trx_of_mtr r.pages.made x) made.1 ∙ back_of c.plan_former.new.node reached c.args.p desk c.args.id c.args.row.now former well r there),
    )

pub returns-clause-media : goal.returns-clause-media
returns-clause-media g c work agree = inl (c.make_plan.ensures.agrees work (media_looked g.D.Disk work c.args.p 0 c.make_room.new.self c.make_room.new.node c.plan_former.new.node (c.make_room.ensures.desk c.have_room.new.self c.have_room.ensures.desk).part c.plan_former.ensures.brings.looked (c.in_default-make_room.ensures.agrees work (c.in_default.ensures.media work agree).0).0))

pub returns-clause-counted : goal.returns-clause-counted
returns-clause-counted g c =
    let one = c.have_room.ensures.counts.no_fall in
    let two = c.make_room.ensures.counts.no_fall in
    let same = ap g.D.Disk.faults c.make_plan.ensures.disk in
    omega (arith, one, two, same)

pub returns-in-Err-clause-failed : goal.returns-in-Err-clause-failed
returns-in-Err-clause-failed g c e = (c.in-Err.ensures.closed, c.in-Err.ensures.counts.cause)

pub returns-in-Err-clause-down : goal.returns-in-Err-clause-down
returns-in-Err-clause-down g c work agree e = (c.in-Err.ensures.media work agree).1

pub returns-in-Err-make_room-clause-failed : goal.returns-in-Err-make_room-clause-failed
returns-in-Err-make_room-clause-failed g c e = (
  c.in-Err-make_room.ensures.closed,
  rose_later (g.D.Disk.faults c.args.media.now.log.disk) (g.D.Disk.faults c.have_room.new.media.log.disk) (g.D.Disk.faults c.make_room.new.self.log.disk) c.have_room.ensures.counts.no_fall c.in-Err-make_room.ensures.counts.cause,
)

pub returns-in-Err-make_room-clause-down : goal.returns-in-Err-make_room-clause-down
returns-in-Err-make_room-clause-down g c work agree e = (c.in-Err-make_room.ensures.agrees work (c.in_default.ensures.media work agree).0).1

pub returns-in-Err-plan_former-clause-failed : goal.returns-in-Err-plan_former-clause-failed
returns-in-Err-plan_former-clause-failed g c e = absurd (cc)

pub returns-in-Err-plan_former-clause-down : goal.returns-in-Err-plan_former-clause-down
returns-in-Err-plan_former-clause-down g c work agree e = absurd (cc)

pub returns-clause-failed : goal.returns-clause-failed
returns-clause-failed g c e = absurd (cc)

pub returns-clause-down : goal.returns-clause-down
returns-clause-down g c work agree e = absurd (cc)
