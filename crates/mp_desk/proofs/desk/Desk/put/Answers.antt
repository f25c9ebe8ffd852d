use Rattle.std.proofs.Common.{◌≡◌, refl, sym, ap, subst, ◌∙◌, inl, inr, arith}
use Rattle.mp_cells.specs.declared.records.Mtr.{Mtr}
use Rattle.mp_shared.proofs.Holding.{held_part}
use Rattle.mp_desk.specs.declared.halts.WriteHalt.TheVariants.{Failed}
use Rattle.mp_desk.specs.Desks.{KeepsLocks, Moves}
use Rattle.mp_desk.specs.Statements.{StaysQuiet}
use Rattle.mp_desk.proofs.BackSteps.{open_more}
use Rattle.mp_desk.specs.Writes.{Withstands, HaltsPlan}
use Rattle.mp_desk.proofs.Moving.{locks_both}
use Rattle.mp_desk.proofs.Replaced.{replaced_writer}
use Rattle.mp_desk.proofs.TrxAlong.{media_looked}
use Rattle.mp_desk.proofs.WritePlanned.{reader_writes}
use Rattle.mp_desk.proofs.PutBackRows.{moves_quiet_looked}
use Rattle.mp_desk.proofs.WriteMade.{reads_then, stood_looked, stood_locks, stood_afresh, stood_reads, stood_halts, planned_looked, planned_locks, planned_halts, forced_keeps, still_taken, still_few, may_make, wrote_value}
use Rattle.mp_desk.proofs.FreshMtr.{made_fresh}
use Rattle.mp_desk.proofs.desk.Desk.put.Goals as goal

pub returns-in-Err-clause-own : goal.returns-in-Err-clause-own
returns-in-Err-clause-own g c = ap (λ (m : Mtr). m.node) c.replaced.ensures.looks.work.1 ∙ c.requires.own

pub returns-in-Err-clause-locks : goal.returns-in-Err-clause-locks
returns-in-Err-clause-locks g c = c.replaced.ensures.looks.locks

pub returns-in-Err-clause-quiet : goal.returns-in-Err-clause-quiet
returns-in-Err-clause-quiet g c = moves_quiet_looked c.args.p c.args.node.now c.replaced.new.node c.replaced.ensures.looks.looked

pub returns-in-Err-clause-still_open : goal.returns-in-Err-clause-still_open
returns-in-Err-clause-still_open g c = inr (open_more c.args.p c.args.self.now.llsn c.replaced.new.self.llsn c.args.media.now.log c.replaced.ensures.llsn c.requires.log)

pub returns-in-Err-clause-media : goal.returns-in-Err-clause-media
returns-in-Err-clause-media g c = λ work agree. inl (media_looked g.D.Disk work c.args.p 0 c.args.media.now c.args.node.now c.replaced.new.node c.requires.desk.part c.replaced.ensures.looks.looked agree)

pub standing-requires-clause-writer : goal.standing-requires-clause-writer
standing-requires-clause-writer g c = reads_then c.args.shared.now c.args.p c.args.trx c.args.key c.args.self.now c.replaced.new.self c.args.node.now c.replaced.new.node c.replaced.new.node c.requires.desk c.requires.afresh c.requires.writer c.replaced.ensures.looks c.replaced.ensures.desk

pub standing-requires-clause-unfreed : goal.standing-requires-clause-unfreed
standing-requires-clause-unfreed g c = replaced_writer c.args.shared.now c.replaced.new.self c.args.p c.replaced.new.node c.replaced.ensures.desk c.args.key c.in-Ok.former c.in-Ok.ensures.shows

pub returns-in-Err-standing-clause-own : goal.returns-in-Err-standing-clause-own
returns-in-Err-standing-clause-own g c = ap (λ (m : Mtr). m.node) c.replaced.ensures.looks.work.1 ∙ c.requires.own

pub returns-in-Err-standing-clause-locks : goal.returns-in-Err-standing-clause-locks
returns-in-Err-standing-clause-locks g c = stood_locks c.args.shared.now c.args.p c.args.trx c.args.key c.args.self.now c.replaced.new.self c.args.node.now c.replaced.new.node c.standing.new.node c.requires.desk c.requires.afresh c.requires.writer c.replaced.ensures.looks c.replaced.ensures.desk c.in-Ok.former c.in-Ok.ensures.shows c.standing.ensures.brings c.standing.ensures.desk

pub returns-in-Err-standing-clause-quiet : goal.returns-in-Err-standing-clause-quiet
returns-in-Err-standing-clause-quiet g c = moves_quiet_looked c.args.p c.args.node.now c.standing.new.node (stood_looked c.args.shared.now c.args.p c.args.trx c.args.key c.args.self.now c.replaced.new.self c.args.node.now c.replaced.new.node c.standing.new.node c.requires.desk c.requires.afresh c.requires.writer c.replaced.ensures.looks c.replaced.ensures.desk c.in-Ok.former c.in-Ok.ensures.shows c.standing.ensures.brings c.standing.ensures.desk)

pub returns-in-Err-standing-clause-cause : goal.returns-in-Err-standing-clause-cause
returns-in-Err-standing-clause-cause g c = stood_halts c.args.shared.now c.args.p c.args.trx c.args.key c.args.self.now c.replaced.new.self c.args.node.now c.replaced.new.node c.standing.new.node c.requires.desk c.requires.afresh c.requires.writer c.replaced.ensures.looks c.replaced.ensures.desk c.in-Ok.former c.in-Ok.ensures.shows c.standing.ensures.brings c.standing.ensures.desk c.in-Err-standing.halt c.in-Err-standing.ensures.stop

pub returns-in-Err-standing-clause-still_open : goal.returns-in-Err-standing-clause-still_open
returns-in-Err-standing-clause-still_open g c = inr (open_more c.args.p c.args.self.now.llsn c.replaced.new.self.llsn c.args.media.now.log c.replaced.ensures.llsn c.requires.log)

pub returns-in-Err-standing-clause-media : goal.returns-in-Err-standing-clause-media
returns-in-Err-standing-clause-media g c = λ work agree. inl (media_looked g.D.Disk work c.args.p 0 c.args.media.now c.args.node.now c.standing.new.node c.requires.desk.part (stood_looked c.args.shared.now c.args.p c.args.trx c.args.key c.args.self.now c.replaced.new.self c.args.node.now c.replaced.new.node c.standing.new.node c.requires.desk c.requires.afresh c.requires.writer c.replaced.ensures.looks c.replaced.ensures.desk c.in-Ok.former c.in-Ok.ensures.shows c.standing.ensures.brings c.standing.ensures.desk) agree)

pub plan_taken-requires-clause-afresh : goal.plan_taken-requires-clause-afresh
plan_taken-requires-clause-afresh g c = stood_afresh c.args.shared.now c.args.p c.args.trx c.args.key c.args.self.now c.replaced.new.self c.args.node.now c.replaced.new.node c.standing.new.node c.requires.desk c.requires.afresh c.requires.writer c.replaced.ensures.looks c.replaced.ensures.desk c.in-Ok.former c.in-Ok.ensures.shows c.standing.ensures.brings c.standing.ensures.desk

pub plan_taken-requires-clause-writer : goal.plan_taken-requires-clause-writer
plan_taken-requires-clause-writer g c = reader_writes c.args.shared.now c.replaced.new.self c.args.p c.standing.new.node c.standing.ensures.desk c.args.trx (stood_reads c.args.shared.now c.args.p c.args.trx c.args.key c.args.self.now c.replaced.new.self c.args.node.now c.replaced.new.node c.standing.new.node c.requires.desk c.requires.afresh c.requires.writer c.replaced.ensures.looks c.replaced.ensures.desk c.in-Ok.former c.in-Ok.ensures.shows c.standing.ensures.brings c.standing.ensures.desk)

pub plan_taken-requires-clause-way : goal.plan_taken-requires-clause-way
plan_taken-requires-clause-way g c = (c.in-Ok.ensures.shows.number, c.in-Ok.ensures.shows.way)

pub returns-in-Err-plan_taken-clause-own : goal.returns-in-Err-plan_taken-clause-own
returns-in-Err-plan_taken-clause-own g c = ap (λ (m : Mtr). m.node) (c.plan_taken.ensures.mtr ∙ c.replaced.ensures.looks.work.1) ∙ c.requires.own

pub returns-in-Err-plan_taken-clause-locks : goal.returns-in-Err-plan_taken-clause-locks
returns-in-Err-plan_taken-clause-locks g c = planned_locks c.args.shared.now c.args.p c.args.trx c.args.key c.args.self.now c.replaced.new.self c.args.node.now c.replaced.new.node c.standing.new.node c.requires.desk c.requires.afresh c.requires.writer c.replaced.ensures.looks c.replaced.ensures.desk c.in-Ok.former c.in-Ok.ensures.shows c.standing.ensures.brings c.standing.ensures.desk c.plan_taken.new.self c.plan_taken.new.node c.plan_taken.ensures.brings c.plan_taken.ensures.desk

pub returns-in-Err-plan_taken-clause-quiet : goal.returns-in-Err-plan_taken-clause-quiet
returns-in-Err-plan_taken-clause-quiet g c = moves_quiet_looked c.args.p c.args.node.now c.plan_taken.new.node (planned_looked c.args.shared.now c.args.p c.args.trx c.args.key c.args.self.now c.replaced.new.self c.args.node.now c.replaced.new.node c.standing.new.node c.requires.desk c.requires.afresh c.requires.writer c.replaced.ensures.looks c.replaced.ensures.desk c.in-Ok.former c.in-Ok.ensures.shows c.standing.ensures.brings c.standing.ensures.desk c.plan_taken.new.self c.plan_taken.new.node c.plan_taken.ensures.brings c.plan_taken.ensures.desk)

pub returns-in-Err-plan_taken-clause-cause : goal.returns-in-Err-plan_taken-clause-cause
returns-in-Err-plan_taken-clause-cause g c = planned_halts c.args.shared.now c.args.p c.args.trx c.args.key c.args.self.now c.replaced.new.self c.args.node.now c.replaced.new.node c.standing.new.node c.requires.desk c.requires.afresh c.requires.writer c.replaced.ensures.looks c.replaced.ensures.desk c.in-Ok.former c.in-Ok.ensures.shows c.standing.ensures.brings c.standing.ensures.desk c.plan_taken.new.self c.plan_taken.new.node c.plan_taken.ensures.brings c.plan_taken.ensures.desk c.in-Err-plan_taken.halt c.in-Err-plan_taken.ensures.cause

pub returns-in-Err-plan_taken-clause-still_open : goal.returns-in-Err-plan_taken-clause-still_open
returns-in-Err-plan_taken-clause-still_open g c = inr (open_more c.args.p c.args.self.now.llsn c.plan_taken.new.self.llsn c.args.media.now.log (let first = c.replaced.ensures.llsn in let second = c.plan_taken.ensures.brings.desk.llsn in omega (arith, first, second)) c.requires.log)

pub returns-in-Err-plan_taken-clause-media : goal.returns-in-Err-plan_taken-clause-media
returns-in-Err-plan_taken-clause-media g c = λ work agree. inl (media_looked g.D.Disk work c.args.p 0 c.args.media.now c.args.node.now c.plan_taken.new.node c.requires.desk.part (planned_looked c.args.shared.now c.args.p c.args.trx c.args.key c.args.self.now c.replaced.new.self c.args.node.now c.replaced.new.node c.standing.new.node c.requires.desk c.requires.afresh c.requires.writer c.replaced.ensures.looks c.replaced.ensures.desk c.in-Ok.former c.in-Ok.ensures.shows c.standing.ensures.brings c.standing.ensures.desk c.plan_taken.new.self c.plan_taken.new.node c.plan_taken.ensures.brings c.plan_taken.ensures.desk) agree)

pub make_room-requires-clause-log : goal.make_room-requires-clause-log
make_room-requires-clause-log g c = (c.args.self.now.llsn, c.requires.log)

pub make_room-requires-clause-agrees : goal.make_room-requires-clause-agrees
make_room-requires-clause-agrees g c = (c.requires.agrees.0, media_looked g.D.Disk c.requires.agrees.0 c.args.p 0 c.args.media.now c.args.node.now c.plan_taken.new.node c.requires.desk.part (planned_looked c.args.shared.now c.args.p c.args.trx c.args.key c.args.self.now c.replaced.new.self c.args.node.now c.replaced.new.node c.standing.new.node c.requires.desk c.requires.afresh c.requires.writer c.replaced.ensures.looks c.replaced.ensures.desk c.in-Ok.former c.in-Ok.ensures.shows c.standing.ensures.brings c.standing.ensures.desk c.plan_taken.new.self c.plan_taken.new.node c.plan_taken.ensures.brings c.plan_taken.ensures.desk) c.requires.agrees.1)

pub returns-in-Err-make_room-clause-desk : goal.returns-in-Err-make_room-clause-desk
returns-in-Err-make_room-clause-desk g c = c.make_room.ensures.desk c.plan_taken.new.self c.plan_taken.ensures.desk

pub returns-in-Err-make_room-clause-own : goal.returns-in-Err-make_room-clause-own
returns-in-Err-make_room-clause-own g c = ap (λ (m : Mtr). m.node) (c.plan_taken.ensures.mtr ∙ c.replaced.ensures.looks.work.1) ∙ c.requires.own

pub returns-in-Err-make_room-clause-locks : goal.returns-in-Err-make_room-clause-locks
returns-in-Err-make_room-clause-locks g c = subst (KeepsLocks c.args.p c.args.node.now) (sym c.in-Err-make_room.ensures.refused) (planned_locks c.args.shared.now c.args.p c.args.trx c.args.key c.args.self.now c.replaced.new.self c.args.node.now c.replaced.new.node c.standing.new.node c.requires.desk c.requires.afresh c.requires.writer c.replaced.ensures.looks c.replaced.ensures.desk c.in-Ok.former c.in-Ok.ensures.shows c.standing.ensures.brings c.standing.ensures.desk c.plan_taken.new.self c.plan_taken.new.node c.plan_taken.ensures.brings c.plan_taken.ensures.desk)

pub returns-in-Err-make_room-clause-quiet : goal.returns-in-Err-make_room-clause-quiet
returns-in-Err-make_room-clause-quiet g c = subst (Moves StaysQuiet c.args.p c.args.node.now) (sym c.in-Err-make_room.ensures.refused) (moves_quiet_looked c.args.p c.args.node.now c.plan_taken.new.node (planned_looked c.args.shared.now c.args.p c.args.trx c.args.key c.args.self.now c.replaced.new.self c.args.node.now c.replaced.new.node c.standing.new.node c.requires.desk c.requires.afresh c.requires.writer c.replaced.ensures.looks c.replaced.ensures.desk c.in-Ok.former c.in-Ok.ensures.shows c.standing.ensures.brings c.standing.ensures.desk c.plan_taken.new.self c.plan_taken.new.node c.plan_taken.ensures.brings c.plan_taken.ensures.desk))

pub returns-in-Err-make_room-clause-still_open : goal.returns-in-Err-make_room-clause-still_open
returns-in-Err-make_room-clause-still_open g c = inl (refl, c.in-Err-make_room.ensures.closed, c.in-Err-make_room.ensures.counts.cause)

pub returns-in-Err-make_room-clause-media : goal.returns-in-Err-make_room-clause-media
returns-in-Err-make_room-clause-media g c = λ work agree. inr (refl, (c.in-Err-make_room.ensures.agrees work (media_looked g.D.Disk work c.args.p 0 c.args.media.now c.args.node.now c.plan_taken.new.node c.requires.desk.part (planned_looked c.args.shared.now c.args.p c.args.trx c.args.key c.args.self.now c.replaced.new.self c.args.node.now c.replaced.new.node c.standing.new.node c.requires.desk c.requires.afresh c.requires.writer c.replaced.ensures.looks c.replaced.ensures.desk c.in-Ok.former c.in-Ok.ensures.shows c.standing.ensures.brings c.standing.ensures.desk c.plan_taken.new.self c.plan_taken.new.node c.plan_taken.ensures.brings c.plan_taken.ensures.desk) agree)).1)

pub make_plan-requires-clause-desk : goal.make_plan-requires-clause-desk
make_plan-requires-clause-desk g c = c.make_room.ensures.desk c.plan_taken.new.self c.plan_taken.ensures.desk

pub make_plan-requires-clause-own : goal.make_plan-requires-clause-own
make_plan-requires-clause-own g c = ap (λ (m : Mtr). m.node) (c.plan_taken.ensures.mtr ∙ c.replaced.ensures.looks.work.1) ∙ c.requires.own

pub make_plan-requires-clause-taken : goal.make_plan-requires-clause-taken
make_plan-requires-clause-taken g c = still_taken c.args.shared.now c.args.p c.args.trx c.args.key c.args.self.now c.replaced.new.self c.args.node.now c.replaced.new.node c.standing.new.node c.requires.desk c.requires.afresh c.requires.writer c.replaced.ensures.looks c.replaced.ensures.desk c.in-Ok.former c.in-Ok.ensures.shows c.standing.ensures.brings c.standing.ensures.desk c.plan_taken.new.self c.plan_taken.new.node c.plan_taken.ensures.brings c.plan_taken.ensures.desk c.make_room.new.node c.in_default-make_room.ensures.forced (c.make_room.ensures.desk c.plan_taken.new.self c.plan_taken.ensures.desk) (record { key = c.args.key; value = c.args.value; writer = c.args.trx.id }) refl refl c.in_default-plan_taken.ensures.plan c.in_default-plan_taken.ensures.taken c.in_default.ensures.over

pub make_plan-requires-clause-may : goal.make_plan-requires-clause-may
make_plan-requires-clause-may g c = may_make c.args.shared.now c.args.p c.args.trx c.args.key c.args.self.now c.replaced.new.self c.args.node.now c.replaced.new.node c.standing.new.node c.requires.desk c.requires.afresh c.requires.writer c.replaced.ensures.looks c.replaced.ensures.desk c.in-Ok.former c.in-Ok.ensures.shows c.standing.ensures.brings c.standing.ensures.desk c.plan_taken.new.self c.plan_taken.new.node c.plan_taken.ensures.brings c.plan_taken.ensures.desk c.make_room.new.node c.in_default-make_room.ensures.forced (c.make_room.ensures.desk c.plan_taken.new.self c.plan_taken.ensures.desk) (record { key = c.args.key; value = c.args.value; writer = c.args.trx.id }) refl refl c.in_default-plan_taken.ensures.plan c.in_default-plan_taken.ensures.taken c.in_default.ensures.over

pub make_plan-requires-clause-few : goal.make_plan-requires-clause-few
make_plan-requires-clause-few g c = still_few c.args.shared.now c.args.p c.args.trx c.args.key c.args.self.now c.replaced.new.self c.args.node.now c.replaced.new.node c.standing.new.node c.requires.desk c.requires.afresh c.requires.writer c.replaced.ensures.looks c.replaced.ensures.desk c.in-Ok.former c.in-Ok.ensures.shows c.standing.ensures.brings c.standing.ensures.desk c.plan_taken.new.self c.plan_taken.new.node c.plan_taken.ensures.brings c.plan_taken.ensures.desk c.make_room.new.node c.in_default-make_room.ensures.forced (c.make_room.ensures.desk c.plan_taken.new.self c.plan_taken.ensures.desk) (record { key = c.args.key; value = c.args.value; writer = c.args.trx.id }) refl refl c.in_default-plan_taken.ensures.plan c.in_default-plan_taken.ensures.taken c.in_default.ensures.over c.requires.few

pub make_plan-requires-clause-log : goal.make_plan-requires-clause-log
make_plan-requires-clause-log g c = open_more c.args.p c.args.self.now.llsn c.plan_taken.new.self.llsn c.make_room.new.self.log (let first = c.replaced.ensures.llsn in let second = c.plan_taken.ensures.brings.desk.llsn in omega (arith, first, second)) (c.in_default-make_room.ensures.open c.args.self.now.llsn c.requires.log)

pub returns-clause-locks : goal.returns-clause-locks
returns-clause-locks g c = locks_both c.args.p c.args.node.now c.make_room.new.node c.make_plan.new.node (forced_keeps c.args.shared.now c.args.p c.args.trx c.args.key c.args.self.now c.replaced.new.self c.args.node.now c.replaced.new.node c.standing.new.node c.requires.desk c.requires.afresh c.requires.writer c.replaced.ensures.looks c.replaced.ensures.desk c.in-Ok.former c.in-Ok.ensures.shows c.standing.ensures.brings c.standing.ensures.desk c.plan_taken.new.self c.plan_taken.new.node c.plan_taken.ensures.brings c.plan_taken.ensures.desk c.make_room.new.node c.in_default-make_room.ensures.forced (c.make_room.ensures.desk c.plan_taken.new.self c.plan_taken.ensures.desk) (record { key = c.args.key; value = c.args.value; writer = c.args.trx.id }) refl refl c.in_default-plan_taken.ensures.plan c.in_default-plan_taken.ensures.taken c.in_default.ensures.over) c.make_plan.ensures.locks

pub returns-clause-wrote : goal.returns-clause-wrote
returns-clause-wrote g c = let made = c.make_plan.ensures.made in wrote_value c.args.shared.now c.args.p c.args.trx c.args.key c.args.self.now c.replaced.new.self c.args.node.now c.replaced.new.node c.standing.new.node c.requires.desk c.requires.afresh c.requires.writer c.replaced.ensures.looks c.replaced.ensures.desk c.in-Ok.former c.in-Ok.ensures.shows c.standing.ensures.brings c.standing.ensures.desk c.plan_taken.new.self c.plan_taken.new.node c.plan_taken.ensures.brings c.plan_taken.ensures.desk c.make_room.new.node c.in_default-make_room.ensures.forced (c.make_room.ensures.desk c.plan_taken.new.self c.plan_taken.ensures.desk) (record { key = c.args.key; value = c.args.value; writer = c.args.trx.id }) refl refl c.in_default-plan_taken.ensures.plan c.in_default-plan_taken.ensures.taken c.in_default.ensures.over c.make_plan.new.node made.0 made.1 made.2 made.3

pub returns-clause-media : goal.returns-clause-media
returns-clause-media g c = λ work agree. inl (c.make_plan.ensures.agrees work ((c.in_default-make_room.ensures.agrees work (media_looked g.D.Disk work c.args.p 0 c.args.media.now c.args.node.now c.plan_taken.new.node c.requires.desk.part (planned_looked c.args.shared.now c.args.p c.args.trx c.args.key c.args.self.now c.replaced.new.self c.args.node.now c.replaced.new.node c.standing.new.node c.requires.desk c.requires.afresh c.requires.writer c.replaced.ensures.looks c.replaced.ensures.desk c.in-Ok.former c.in-Ok.ensures.shows c.standing.ensures.brings c.standing.ensures.desk c.plan_taken.new.self c.plan_taken.new.node c.plan_taken.ensures.brings c.plan_taken.ensures.desk) agree)).0))

pub returns-in-Err-standing-clause-failed : goal.returns-in-Err-standing-clause-failed
returns-in-Err-standing-clause-failed g c = λ e.
    let held = held_part c.standing.new.node c.args.p c.standing.ensures.desk.part in
    let failed : c.in-Err-standing.halt ≡ Failed = cc in
    absurd (subst (Withstands held.0 c.args.trx c.in-Ok.former) failed (c.in-Err-standing.ensures.stop held.0 held.1))

pub returns-in-Err-plan_taken-clause-failed : goal.returns-in-Err-plan_taken-clause-failed
returns-in-Err-plan_taken-clause-failed g c = λ e.
    let failed : c.in-Err-plan_taken.halt ≡ Failed = cc in
    absurd (subst (HaltsPlan c.args.p c.standing.new.node c.plan_taken.new.node) failed c.in-Err-plan_taken.ensures.cause)

pub returns-in-Err-make_room-clause-failed : goal.returns-in-Err-make_room-clause-failed
returns-in-Err-make_room-clause-failed g c = λ e. (c.in-Err-make_room.ensures.closed, c.in-Err-make_room.ensures.counts.cause)

pub returns-in-Err-make_room-clause-counted : goal.returns-in-Err-make_room-clause-counted
returns-in-Err-make_room-clause-counted g c = c.in-Err-make_room.ensures.counts.no_fall

pub returns-clause-counted : goal.returns-clause-counted
returns-clause-counted g c =
    let room = c.make_room.ensures.counts.no_fall in
    let same = ap (λ (disk : g.row.D.Denot). g.D.Disk.faults disk) c.make_plan.ensures.disk in
    omega (arith, room, same)

pub returns-clause-fresh : goal.returns-clause-fresh
returns-clause-fresh g c =
    let made = c.make_plan.ensures.made in
    made_fresh c.args.shared.now c.plan_taken.new.self c.args.p c.make_room.new.node c.make_plan.new.node (c.make_room.ensures.desk c.plan_taken.new.self c.plan_taken.ensures.desk) made.0 made.1 made.2
