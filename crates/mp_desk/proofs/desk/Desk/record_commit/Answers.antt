use Rattle.std.proofs.Common.{◌≤◌, ◌+◌, length, refl, sym, subst, ◌∙◌, arith}
use Rattle.mp_cells.specs.declared.records.Mtr.{Mtr}
use Rattle.mp_redo.specs.Spelling.{mtr_bytes}
use Rattle.mp_core_pages.specs.declared.event.PagesEvent.TheVariants.{StoreLlsn}
use Rattle.mp_core.specs.declared.event.CoreEvent.TheVariants.{Pages}
use Rattle.mp_log.specs.Tails.{room_of}
use Rattle.mp_shared.specs.Nodes.{MayTake}
use Rattle.mp_desk.proofs.CommitMade.{commit_size, commit_llsn, may_store_commit}
use Rattle.mp_desk.proofs.MadePlan.{commit_is, commit_at_desk, commit_locks}
use Rattle.mp_desk.proofs.desk.Desk.record_commit.Goals as goal

pub overflow_add-self : goal.overflow_add-self
overflow_add-self g c =
    let small = commit_llsn c.args.shared.now c.args.self.now c.args.p c.args.node.now c.requires.desk c.args.id c.args.cts c.requires.may c.requires.few in
    omega (arith, small)

pub log_mtr-requires-clause-step : goal.log_mtr-requires-clause-step
log_mtr-requires-clause-step g c =
    let desk = c.args.self.now in
    let is = commit_is desk.mtr.node c.args.p (desk.llsn + 1) c.args.id c.args.cts c.put.new.self c.clear.new.self c.requires.own c.clear.ensures c.put.ensures in
    subst (λ (m : Mtr). MayTake (Pages (StoreLlsn c.args.p m)) c.args.node.now) (sym is)
    (may_store_commit c.args.shared.now desk c.args.p c.args.node.now c.requires.desk c.args.id c.args.cts c.requires.may c.requires.few)

pub log_mtr-requires-clause-room : goal.log_mtr-requires-clause-room
log_mtr-requires-clause-room g c =
    let desk = c.args.self.now in
    let is = commit_is desk.mtr.node c.args.p (desk.llsn + 1) c.args.id c.args.cts c.put.new.self c.clear.new.self c.requires.own c.clear.ensures c.put.ensures in
    let size = commit_size c.args.p (desk.llsn + 1) c.args.id c.args.cts in
    subst (λ (m : Mtr). length (mtr_bytes m) ≤ room_of c.args.media.now.log.tail) (sym is) (omega (arith, size, c.requires.room))

pub returns-clause-desk : goal.returns-clause-desk
returns-clause-desk g c =
    let desk = c.args.self.now in
    let is = commit_is desk.mtr.node c.args.p (desk.llsn + 1) c.args.id c.args.cts c.put.new.self c.clear.new.self c.requires.own c.clear.ensures c.put.ensures in
    let made = c.log_mtr.ensures.made in
    commit_at_desk c.args.shared.now desk c.args.p c.args.node.now c.requires.desk c.args.id c.args.cts made.0 (made.1 ∙ is) c.log_mtr.new.node made.2 c.log_mtr.ensures.reached
    (record { pool = desk.pool; llsn = desk.llsn + 1; undo = desk.undo; plan = desk.plan; mtr = record { node = desk.mtr.node; llsn = desk.llsn + 1; records = c.put.new.self } }) refl refl refl

pub returns-clause-locks : goal.returns-clause-locks
returns-clause-locks g c =
    let desk = c.args.self.now in
    let is = commit_is desk.mtr.node c.args.p (desk.llsn + 1) c.args.id c.args.cts c.put.new.self c.clear.new.self c.requires.own c.clear.ensures c.put.ensures in
    let made = c.log_mtr.ensures.made in
    commit_locks c.args.shared.now desk c.args.p c.args.node.now c.requires.desk c.args.id c.args.cts made.0 (made.1 ∙ is) c.log_mtr.new.node made.2 c.log_mtr.ensures.reached
