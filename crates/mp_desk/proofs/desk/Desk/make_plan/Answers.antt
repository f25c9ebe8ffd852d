use Rattle.std.proofs.Common.{◌≤◌, ℕ, ◌+◌, length, Some, refl, sym, ap, subst, ◌∙◌, inl, inr, arith}
use Rattle.mp_machine.specs.Lists.{IsIn}
use Rattle.mp_cells.specs.declared.changes.Change.TheVariants.{MakeUndo}
use Rattle.mp_cells.specs.declared.records.Mtr.{Mtr}
use Rattle.mp_cells.specs.Plans.{Plan}
use Rattle.mp_redo.specs.Spelling.{mtr_bytes}
use Rattle.mp_redo.proofs.Puts.{mtr_most}
use Rattle.mp_core_pages.specs.declared.event.PagesEvent.TheVariants.{StoreLlsn}
use Rattle.mp_core.specs.declared.event.CoreEvent.TheVariants.{Pages}
use Rattle.mp_log.specs.Tails.{room_of}
use Rattle.mp_shared.specs.Nodes.{MayTake}
use Rattle.mp_shared.proofs.Holding.{held_part}
use Rattle.mp_desk.specs.declared.desk.Desk.{Desk}
use Rattle.mp_desk.specs.Making.{mtr_of_plan, HasSamePages}
use Rattle.mp_desk.proofs.Makeable.{can_write, next_llsn, planned_mtr, may_store}
use Rattle.mp_desk.proofs.MtrAtDesk.{same_pages}
use Rattle.mp_desk.proofs.MadePlan.{made_at_desk, made_locks}
use Rattle.mp_desk.proofs.desk.Desk.make_plan.Goals as goal

pub write_mtr-requires-clause-llsn : goal.write_mtr-requires-clause-llsn
write_mtr-requires-clause-llsn g c =
    let held = held_part c.args.node.now c.args.p c.requires.desk.part in
    next_llsn c.args.shared.now c.args.self.now c.args.p c.args.node.now c.requires.desk c.requires.own c.requires.taken c.requires.may (c.requires.few held.0 held.1)

pub write_mtr-requires-clause-can : goal.write_mtr-requires-clause-can
write_mtr-requires-clause-can g c =
    let held = held_part c.args.node.now c.args.p c.requires.desk.part in
    can_write c.args.shared.now c.args.self.now c.args.p c.args.node.now c.requires.desk c.requires.own c.requires.taken c.requires.may (c.requires.few held.0 held.1)

pub log_mtr-requires-clause-step : goal.log_mtr-requires-clause-step
log_mtr-requires-clause-step g c =
    let held = held_part c.args.node.now c.args.p c.requires.desk.part in
    let mtr = ap (λ (d : Desk). d.mtr) c.write_mtr.ensures.made in
    subst (λ (m : Mtr). MayTake (Pages (StoreLlsn c.args.p m)) c.args.node.now) (sym mtr)
    (may_store c.args.shared.now c.args.self.now c.args.p c.args.node.now c.requires.desk c.requires.own c.requires.taken c.requires.may (c.requires.few held.0 held.1) c.write_mtr.ensures.few)

pub log_mtr-requires-clause-room : goal.log_mtr-requires-clause-room
log_mtr-requires-clause-room g c =
    let held = held_part c.args.node.now c.args.p c.requires.desk.part in
    let mtr = ap (λ (d : Desk). d.mtr) c.write_mtr.ensures.made in
    let most = mtr_most (mtr_of_plan c.args.self.now) (planned_mtr c.args.shared.now c.args.self.now c.args.p c.args.node.now c.requires.desk c.requires.own c.requires.taken c.requires.may (c.requires.few held.0 held.1) c.write_mtr.ensures.few) in
    subst (λ (m : Mtr). length (mtr_bytes m) ≤ room_of c.args.media.now.log.tail) (sym mtr) (omega (arith, most, c.requires.room))

pub returns-in-Some-clause-desk : goal.returns-in-Some-clause-desk
returns-in-Some-clause-desk g c =
    let was = c.write_mtr.ensures.made in
    let made = c.log_mtr.ensures.made in
    made_at_desk c.args.shared.now c.args.self.now c.args.p c.args.node.now c.requires.desk c.requires.own c.requires.taken c.requires.may c.requires.few
    made.0 (made.1 ∙ ap (λ (d : Desk). d.mtr) was) c.log_mtr.new.node made.2 c.log_mtr.ensures.reached
    (record { pool = c.write_mtr.new.self.pool; llsn = c.write_mtr.new.self.mtr.llsn; undo = Some c.in-Some.page; plan = c.write_mtr.new.self.plan; mtr = c.write_mtr.new.self.mtr })
    (ap (λ (d : Desk). d.pool) was) (ap (λ (d : Desk). d.mtr.llsn) was)
    (inl (c.in-Some.page, refl, subst (λ (l : Plan). IsIn (c.in-Some.page, MakeUndo) l) (ap (λ (d : Desk). d.plan) was) c.in-Some.ensures))

pub returns-in-Some-clause-pages : goal.returns-in-Some-clause-pages
returns-in-Some-clause-pages g c =
    let was = c.write_mtr.ensures.made in
    subst (HasSamePages c.args.self.now.pool) (sym (ap (λ (d : Desk). d.pool) was)) (same_pages (c.args.self.now.llsn + 1) (mtr_of_plan c.args.self.now).records c.args.self.now.pool)

pub returns-in-Some-clause-locks : goal.returns-in-Some-clause-locks
returns-in-Some-clause-locks g c =
    let was = c.write_mtr.ensures.made in
    let made = c.log_mtr.ensures.made in
    made_locks c.args.shared.now c.args.self.now c.args.p c.args.node.now c.requires.desk c.requires.own c.requires.taken c.requires.may c.requires.few
    made.0 (made.1 ∙ ap (λ (d : Desk). d.mtr) was) c.log_mtr.new.node made.2 c.log_mtr.ensures.reached

pub returns-in_default-clause-desk : goal.returns-in_default-clause-desk
returns-in_default-clause-desk g c =
    let was = c.write_mtr.ensures.made in
    let made = c.log_mtr.ensures.made in
    let none : (page : ℕ) → IsIn (page, MakeUndo) c.write_mtr.new.self.plan → ⊥ = c.in_default.ensures in
    made_at_desk c.args.shared.now c.args.self.now c.args.p c.args.node.now c.requires.desk c.requires.own c.requires.taken c.requires.may c.requires.few
    made.0 (made.1 ∙ ap (λ (d : Desk). d.mtr) was) c.log_mtr.new.node made.2 c.log_mtr.ensures.reached
    (record { pool = c.write_mtr.new.self.pool; llsn = c.write_mtr.new.self.mtr.llsn; undo = c.write_mtr.new.self.undo; plan = c.write_mtr.new.self.plan; mtr = c.write_mtr.new.self.mtr })
    (ap (λ (d : Desk). d.pool) was) (ap (λ (d : Desk). d.mtr.llsn) was)
    (inr (ap (λ (d : Desk). d.undo) was, λ page there. none page (subst (λ (l : Plan). IsIn (page, MakeUndo) l) (sym (ap (λ (d : Desk). d.plan) was)) there)))

pub returns-in_default-clause-pages : goal.returns-in_default-clause-pages
returns-in_default-clause-pages g c =
    let was = c.write_mtr.ensures.made in
    subst (HasSamePages c.args.self.now.pool) (sym (ap (λ (d : Desk). d.pool) was)) (same_pages (c.args.self.now.llsn + 1) (mtr_of_plan c.args.self.now).records c.args.self.now.pool)

pub returns-in_default-clause-undo : goal.returns-in_default-clause-undo
returns-in_default-clause-undo g c =
    let was = c.write_mtr.ensures.made in
    let none : (page : ℕ) → IsIn (page, MakeUndo) c.write_mtr.new.self.plan → ⊥ = c.in_default.ensures in
    inr (ap (λ (d : Desk). d.undo) was, λ page there. none page (subst (λ (l : Plan). IsIn (page, MakeUndo) l) (sym (ap (λ (d : Desk). d.plan) was)) there))

pub returns-in_default-clause-locks : goal.returns-in_default-clause-locks
returns-in_default-clause-locks g c =
    let was = c.write_mtr.ensures.made in
    let made = c.log_mtr.ensures.made in
    made_locks c.args.shared.now c.args.self.now c.args.p c.args.node.now c.requires.desk c.requires.own c.requires.taken c.requires.may c.requires.few
    made.0 (made.1 ∙ ap (λ (d : Desk). d.mtr) was) c.log_mtr.new.node made.2 c.log_mtr.ensures.reached
