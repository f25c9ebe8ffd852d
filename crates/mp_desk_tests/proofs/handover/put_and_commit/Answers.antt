use Rattle.std.proofs.Common.{false, refl, sym, subst, arith}
use Rattle.mp_desk.specs.Making.{IsOpenLog}
use Rattle.mp_desk_tests.proofs.FirstParts.{at_first_desk, none_made, few_made}
use Rattle.mp_desk_tests.proofs.FirstMedia.{media_first}
use Rattle.mp_desk_tests.proofs.handover.put_and_commit.Goals as goal

pub put_and_let_go-requires-clause-desk : goal.put_and_let_go-requires-clause-desk
put_and_let_go-requires-clause-desk g c =
    let new = c.in_ok-desk.ensures in
    at_first_desk c.args.node.now c.args.p c.in_ok-desk.desk c.requires.fresh new.0 c.args.shared.now c.requires.node.0 c.requires.node.1
    c.requires.reached new.1 new.2

pub put_and_let_go-requires-clause-own : goal.put_and_let_go-requires-clause-own
put_and_let_go-requires-clause-own g c = (c.in_ok-desk.ensures.4, c.in_ok-desk.ensures.0)

pub put_and_let_go-requires-clause-few : goal.put_and_let_go-requires-clause-few
put_and_let_go-requires-clause-few g c = few_made c.args.node.now c.args.p 0 (omega arith)
    (none_made c.args.node.now c.args.p c.requires.fresh)

pub put_and_let_go-requires-clause-log : goal.put_and_let_go-requires-clause-log
put_and_let_go-requires-clause-log g c = subst (λ llsn. IsOpenLog c.args.p llsn c.args.log)
    (sym c.in_ok-desk.ensures.1) c.requires.log.takes

pub put_and_let_go-requires-clause-agrees : goal.put_and_let_go-requires-clause-agrees
put_and_let_go-requires-clause-agrees g c = media_first g.D.Disk (record { log = c.args.log; unforced = false }) c.args.p c.args.node.now
    c.requires.fresh c.requires.log refl

pub commit_trx-requires-clause-desk : goal.commit_trx-requires-clause-desk
commit_trx-requires-clause-desk g c = c.put_and_let_go.ensures.desk c.if-not-put_and_let_go.false

pub commit_trx-requires-clause-own : goal.commit_trx-requires-clause-own
commit_trx-requires-clause-own g c = (c.put_and_let_go.ensures.own c.if-not-put_and_let_go.false).0

pub commit_trx-requires-clause-open : goal.commit_trx-requires-clause-open
commit_trx-requires-clause-open g c = c.put_and_let_go.ensures.reads c.if-not-put_and_let_go.false

pub commit_trx-requires-clause-few : goal.commit_trx-requires-clause-few
commit_trx-requires-clause-few g c =
    few_made c.put_and_let_go.new.node c.args.p 1 (omega arith)
    (c.put_and_let_go.ensures.made 0 (none_made c.args.node.now c.args.p c.requires.fresh) c.if-not-put_and_let_go.false)

pub commit_trx-requires-clause-log : goal.commit_trx-requires-clause-log
commit_trx-requires-clause-log g c = c.put_and_let_go.ensures.log c.if-not-put_and_let_go.false

pub commit_trx-requires-clause-agrees : goal.commit_trx-requires-clause-agrees
commit_trx-requires-clause-agrees g c = c.put_and_let_go.ensures.agrees c.if-not-put_and_let_go.false
