use Rattle.std.proofs.Common.{refl, sym, subst, Some}
use Rattle.mp_core_trx.specs.Events.{with_end}
use Rattle.mp_shared.specs.Nodes.{NodeView}
use Rattle.mp_desk.specs.Desks.{Moves, KeepsLocks}
use Rattle.mp_desk.specs.Writes.{IsInTheBalance}
use Rattle.mp_desk.proofs.Moving.{locks_both, moves_same}
use Rattle.mp_desk.proofs.Committing.{reads_on, forced_then_locks, forced_then_balance, stamp_above, stamp_exact, all_forced_locks, may_publish, moves_published, published_at_desk, published_locks, published_media}
use Rattle.mp_desk.proofs.MadeLater.{MadeTheSame, later_none, commit_later, published_later}
use Rattle.mp_desk.proofs.TrxStepped.{extends_end}
use Rattle.mp_desk.proofs.desk.Desk.commit_trx.Goals as goal

pub returns-in-Err-clause-media : goal.returns-in-Err-clause-media
returns-in-Err-clause-media g c work agree = (c.in-Err.ensures.agrees work agree).1

pub returns-in-Err-clause-later : goal.returns-in-Err-clause-later
returns-in-Err-clause-later g c =
    later_none c.args.p c.args.node.now c.room_for_commit.new.node (moves_same c.args.p MadeTheSame (λ q. refl) c.args.node.now c.room_for_commit.new.node c.in-Err.ensures.refused)

pub stamp-cts-requires-clause-desk : goal.stamp-cts-requires-clause-desk
stamp-cts-requires-clause-desk g c = c.room_for_commit.ensures.desk c.args.self.now c.requires.desk

pub stamp-cts-requires-clause-open : goal.stamp-cts-requires-clause-open
stamp-cts-requires-clause-open g c = reads_on c.args.p c.args.node.now c.room_for_commit.new.node c.requires.desk.part c.in_default.ensures.forced c.args.trx c.requires.open

pub stamp-cts-requires-clause-log : goal.stamp-cts-requires-clause-log
stamp-cts-requires-clause-log g c = c.in_default.ensures.open c.args.self.now.llsn c.requires.log

pub force-requires-clause-agrees : goal.force-requires-clause-agrees
force-requires-clause-agrees g c =
    let work = c.requires.agrees.0 in
    let agree = c.requires.agrees.1 in
    (work, c.stamp-cts.ensures.media work (c.in_default.ensures.agrees work agree).0)

pub returns-in-Err-force-clause-locks : goal.returns-in-Err-force-clause-locks
returns-in-Err-force-clause-locks g c =
    subst (λ (n : NodeView). KeepsLocks c.args.p c.args.node.now n) (sym c.in-Err-force.ensures.refused)
    (forced_then_locks c.args.p c.args.trx c.stamp-cts.result c.args.node.now c.room_for_commit.new.node c.stamp-cts.new.node c.requires.desk.part c.in_default.ensures.forced c.stamp-cts.ensures.locks)

pub returns-in-Err-force-clause-stopped : goal.returns-in-Err-force-clause-stopped
returns-in-Err-force-clause-stopped g c =
    subst (λ (n : NodeView). Moves (IsInTheBalance c.args.trx c.stamp-cts.result) c.args.p c.args.node.now n) (sym c.in-Err-force.ensures.refused)
    (forced_then_balance c.args.p c.args.trx c.stamp-cts.result c.args.node.now c.room_for_commit.new.node c.stamp-cts.new.node c.requires.desk.part c.in_default.ensures.forced c.stamp-cts.ensures.recorded)

pub returns-in-Err-force-clause-later : goal.returns-in-Err-force-clause-later
returns-in-Err-force-clause-later g c =
    commit_later c.args.p c.args.node.now c.room_for_commit.new.node c.stamp-cts.new.node c.force.new.node c.in_default.ensures.forced c.stamp-cts.ensures.later (sym c.in-Err-force.ensures.refused)

pub returns-in-Err-force-clause-above : goal.returns-in-Err-force-clause-above
returns-in-Err-force-clause-above g c cts is = stamp_above c.args.p c.args.node.now c.room_for_commit.new.node c.requires.desk.part c.in_default.ensures.forced c.stamp-cts.result cts is c.stamp-cts.ensures.above

pub returns-in-Err-force-clause-exact : goal.returns-in-Err-force-clause-exact
returns-in-Err-force-clause-exact g c cts is all = stamp_exact c.args.p c.args.node.now c.room_for_commit.new.node c.requires.desk.part c.in_default.ensures.forced c.stamp-cts.result cts is c.stamp-cts.ensures.exact all

pub returns-in-Err-force-clause-media : goal.returns-in-Err-force-clause-media
returns-in-Err-force-clause-media g c work agree = (c.in-Err-force.ensures.agrees work (c.stamp-cts.ensures.media work (c.in_default.ensures.agrees work agree).0)).1

pub publish-requires-clause-may : goal.publish-requires-clause-may
publish-requires-clause-may g c =
    may_publish c.args.p c.args.trx c.stamp-cts.result c.args.node.now c.stamp-cts.new.node c.force.new.node c.requires.desk.part c.requires.open (forced_then_balance c.args.p c.args.trx c.stamp-cts.result c.args.node.now c.room_for_commit.new.node c.stamp-cts.new.node c.requires.desk.part c.in_default.ensures.forced c.stamp-cts.ensures.recorded) c.in_default-force.ensures.forced c.force.ensures.reached

pub returns-clause-desk : goal.returns-clause-desk
returns-clause-desk g c =
    published_at_desk c.args.p c.args.trx c.stamp-cts.result c.args.node.now c.stamp-cts.new.node c.force.new.node c.requires.desk.part c.requires.open (forced_then_balance c.args.p c.args.trx c.stamp-cts.result c.args.node.now c.room_for_commit.new.node c.stamp-cts.new.node c.requires.desk.part c.in_default.ensures.forced c.stamp-cts.ensures.recorded) c.in_default-force.ensures.forced c.force.ensures.reached c.publish.new.node c.publish.ensures.becomes
    c.args.shared.now c.stamp-cts.new.self (c.force.ensures.desk c.stamp-cts.new.self c.stamp-cts.ensures.desk) c.publish.ensures.reached

pub returns-clause-locks : goal.returns-clause-locks
returns-clause-locks g c =
    let recorded = forced_then_locks c.args.p c.args.trx c.stamp-cts.result c.args.node.now c.room_for_commit.new.node c.stamp-cts.new.node c.requires.desk.part c.in_default.ensures.forced c.stamp-cts.ensures.locks in
    let forced = all_forced_locks c.args.p c.stamp-cts.new.node c.force.new.node c.stamp-cts.ensures.desk.part c.in_default-force.ensures.forced in
    locks_both c.args.p c.args.node.now c.force.new.node c.publish.new.node (locks_both c.args.p c.args.node.now c.stamp-cts.new.node c.force.new.node recorded forced)
    (published_locks c.args.p c.args.trx c.stamp-cts.result c.args.node.now c.stamp-cts.new.node c.force.new.node c.requires.desk.part c.requires.open (forced_then_balance c.args.p c.args.trx c.stamp-cts.result c.args.node.now c.room_for_commit.new.node c.stamp-cts.new.node c.requires.desk.part c.in_default.ensures.forced c.stamp-cts.ensures.recorded) c.in_default-force.ensures.forced c.force.ensures.reached c.publish.new.node c.publish.ensures.becomes)

pub returns-clause-published : goal.returns-clause-published
returns-clause-published g c =
    moves_published c.args.p c.args.trx c.stamp-cts.result c.args.node.now c.stamp-cts.new.node c.force.new.node c.requires.desk.part c.requires.open (forced_then_balance c.args.p c.args.trx c.stamp-cts.result c.args.node.now c.room_for_commit.new.node c.stamp-cts.new.node c.requires.desk.part c.in_default.ensures.forced c.stamp-cts.ensures.recorded) c.in_default-force.ensures.forced c.force.ensures.reached c.publish.new.node c.publish.ensures.becomes

pub returns-clause-later : goal.returns-clause-later
returns-clause-later g c =
    published_later c.args.p c.args.node.now c.room_for_commit.new.node c.stamp-cts.new.node c.force.new.node c.publish.new.node (with_end c.args.trx.id (Some c.stamp-cts.result))
    c.in_default.ensures.forced c.stamp-cts.ensures.later c.stamp-cts.ensures.desk.part c.in_default-force.ensures.forced (c.force.ensures.desk c.stamp-cts.new.self c.stamp-cts.ensures.desk).part c.publish.ensures.becomes (extends_end c.args.trx.id (Some c.stamp-cts.result))

pub returns-clause-above : goal.returns-clause-above
returns-clause-above g c cts is = stamp_above c.args.p c.args.node.now c.room_for_commit.new.node c.requires.desk.part c.in_default.ensures.forced c.stamp-cts.result cts is c.stamp-cts.ensures.above

pub returns-clause-exact : goal.returns-clause-exact
returns-clause-exact g c cts is all = stamp_exact c.args.p c.args.node.now c.room_for_commit.new.node c.requires.desk.part c.in_default.ensures.forced c.stamp-cts.result cts is c.stamp-cts.ensures.exact all

pub returns-clause-open : goal.returns-clause-open
returns-clause-open g c = c.in_default-force.ensures.open c.stamp-cts.new.self.llsn c.stamp-cts.ensures.open

pub returns-clause-media : goal.returns-clause-media
returns-clause-media g c work agree =
    published_media c.args.p c.args.trx c.stamp-cts.result c.args.node.now c.stamp-cts.new.node c.force.new.node c.requires.desk.part c.requires.open (forced_then_balance c.args.p c.args.trx c.stamp-cts.result c.args.node.now c.room_for_commit.new.node c.stamp-cts.new.node c.requires.desk.part c.in_default.ensures.forced c.stamp-cts.ensures.recorded) c.in_default-force.ensures.forced c.force.ensures.reached c.publish.new.node c.publish.ensures.becomes
    g.D.Disk work c.force.new.self (c.in_default-force.ensures.agrees work (c.stamp-cts.ensures.media work (c.in_default.ensures.agrees work agree).0)).0
