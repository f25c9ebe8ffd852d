use Rattle.std.proofs.Common.{ℕ, ap, subst, ◌∙◌, arith}
use Rattle.mp_trx_fusion.specs.Calls.{KnowsLess}
use Rattle.mp_desk.specs.declared.desk.Desk.{Desk}
use Rattle.mp_desk.specs.declared.halts.CommitHalt.{CommitHalt}
use Rattle.mp_desk.specs.Ending.{StopsCommit}
use Rattle.mp_primary.specs.declared.outside.CommitEnd.TheVariants as ends
use Rattle.mp_primary.specs.Primaries.{PrimaryView}
use Rattle.mp_primary.specs.Turns.{IsSessionOf}
use Rattle.mp_primary.proofs.OpenTrx.{stands_inside, up_inside, open_inside, reads_in}
use Rattle.mp_primary.proofs.FewMtrs.{few_mtrs}
use Rattle.mp_primary.proofs.CommitEnds.{media_before, published_ends, doubt_ends, stopped_ends, ends_inside}
use Rattle.mp_primary.proofs.primary.Primary.commit_writes.Goals as goal

pub commit_trx-requires-clause-open : goal.commit_trx-requires-clause-open
commit_trx-requires-clause-open g c =
    let stands = stands_inside g.D.Disk c.args.shared.now _ c.args.self.now c.self.view_is c.args.node.now c.requires.stands in
    let up = up_inside g.D.Disk c.args.shared.now _ c.args.self.now c.self.view_is c.args.node.now c.requires.up in
    let open_trx = open_inside g.D.Disk c.args.shared.now _ c.args.self.now c.self.view_is c.args.node.now c.args.session c.args.trx c.requires.open in
    reads_in g.D.Disk c.args.shared.now _ c.args.node.now stands up c.args.session c.args.trx open_trx.0 open_trx.1 open_trx.2

pub commit_trx-requires-clause-few : goal.commit_trx-requires-clause-few
commit_trx-requires-clause-few g c =
    let stands = stands_inside g.D.Disk c.args.shared.now _ c.args.self.now c.self.view_is c.args.node.now c.requires.stands in
    let up = up_inside g.D.Disk c.args.shared.now _ c.args.self.now c.self.view_is c.args.node.now c.requires.up in
    let open_trx = open_inside g.D.Disk c.args.shared.now _ c.args.self.now c.self.view_is c.args.node.now c.args.session c.args.trx c.requires.open in
    few_mtrs g.D.Disk c.args.shared.now _ c.args.node.now stands up c.args.session c.args.trx open_trx.0 open_trx.1 open_trx.2

pub commit_trx-requires-clause-agrees : goal.commit_trx-requires-clause-agrees
commit_trx-requires-clause-agrees g c =
    let stands = stands_inside g.D.Disk c.args.shared.now _ c.args.self.now c.self.view_is c.args.node.now c.requires.stands in
    let up = up_inside g.D.Disk c.args.shared.now _ c.args.self.now c.self.view_is c.args.node.now c.requires.up in
    (_, media_before g.D.Disk c.args.shared.now _ c.args.node.now stands up c.args.session c.args.trx)

pub let_go-requires-clause-agrees : goal.let_go-requires-clause-agrees
let_go-requires-clause-agrees g c =
    let stands = stands_inside g.D.Disk c.args.shared.now _ c.args.self.now c.self.view_is c.args.node.now c.requires.stands in
    let up = up_inside g.D.Disk c.args.shared.now _ c.args.self.now c.self.view_is c.args.node.now c.requires.up in
    (_, c.in-Ok.ensures.media _ (media_before g.D.Disk c.args.shared.now _ c.args.node.now stands up c.args.session c.args.trx))

pub returns-in-Ok-let_go-clause-ended : goal.returns-in-Ok-let_go-clause-ended
returns-in-Ok-let_go-clause-ended g c =
    let stands = stands_inside g.D.Disk c.args.shared.now _ c.args.self.now c.self.view_is c.args.node.now c.requires.stands in
    let up = up_inside g.D.Disk c.args.shared.now _ c.args.self.now c.self.view_is c.args.node.now c.requires.up in
    let emptied = c.in-Ok-let_go.ensures.emptied in
    let agree = c.in-Ok.ensures.media _ (media_before g.D.Disk c.args.shared.now _ c.args.node.now stands up c.args.session c.args.trx) in
    let first = c.commit_trx.ensures.counts.no_fall in
    let second = c.let_go.ensures.counts.no_fall in
    ends_inside g.D.Disk c.args.shared.now _ c.args.self.now _ c.self.view_is c.args.node.now c.let_go.new.node c.args.session c.args.trx (ends.At c.in-Ok.cts)
    (published_ends g.D.Disk c.args.shared.now _ c.args.node.now stands up c.args.session c.args.trx c.let_go.new.self c.let_go.new.media c.let_go.new.node c.let_go.ensures.desk
    (ap (λ (d : Desk). d.mtr.node) emptied ∙ c.commit_trx.ensures.own)
    (omega (arith, first, second)) (c.let_go.ensures.tells ∙ c.commit_trx.ensures.tells)
    (λ s found. c.requires.wrote s (subst (λ (v : PrimaryView g.row.D.Denot). IsSessionOf v c.args.session s) c.self.view_is found))
    c.in-Ok.cts c.commit_trx.new.node c.commit_trx.ensures.desk.part c.in-Ok.ensures.published c.in-Ok-let_go.ensures.gone c.commit_trx.ensures.later
    c.in-Ok-let_go.ensures.open (ap (λ (d : Desk). d.pool) emptied) c.in-Ok-let_go.ensures.unforced (c.in-Ok-let_go.ensures.media _ agree).0)

pub returns-in-Ok-let_go-clause-above : goal.returns-in-Ok-let_go-clause-above
returns-in-Ok-let_go-clause-above g c cts is =
    subst (λ (k : ℕ). KnowsLess c.args.node.now k cts) (ap (λ (v : PrimaryView g.row.D.Denot). v.number) c.self.view_is) (c.in-Ok.ensures.above cts is)

pub returns-in-Err-Failed-clause-ended : goal.returns-in-Err-Failed-clause-ended
returns-in-Err-Failed-clause-ended g c =
    let stands = stands_inside g.D.Disk c.args.shared.now _ c.args.self.now c.self.view_is c.args.node.now c.requires.stands in
    let up = up_inside g.D.Disk c.args.shared.now _ c.args.self.now c.self.view_is c.args.node.now c.requires.up in
    ends_inside g.D.Disk c.args.shared.now _ c.args.self.now _ c.self.view_is c.args.node.now c.commit_trx.new.node c.args.session c.args.trx ends.Stopped
    (stopped_ends g.D.Disk c.args.shared.now _ c.args.node.now stands up c.args.session c.args.trx c.commit_trx.new.self c.commit_trx.new.media c.commit_trx.new.node c.commit_trx.ensures.desk c.commit_trx.ensures.own c.commit_trx.ensures.counts.no_fall c.commit_trx.ensures.tells
    (λ s found. c.requires.wrote s (subst (λ (v : PrimaryView g.row.D.Denot). IsSessionOf v c.args.session s) c.self.view_is found))
    (c.in-Err-Failed.ensures.media _ (media_before g.D.Disk c.args.shared.now _ c.args.node.now stands up c.args.session c.args.trx))
    c.in-Err-Failed.ensures.counts.cause
    (subst (λ (h : CommitHalt). StopsCommit c.self.inside.number c.args.trx c.args.node.now c.commit_trx.new.node h) c.in-Err-Failed.field-0-is c.in-Err-Failed.ensures.stopped))

pub returns-in-Err-Unknown-clause-ended : goal.returns-in-Err-Unknown-clause-ended
returns-in-Err-Unknown-clause-ended g c =
    let stands = stands_inside g.D.Disk c.args.shared.now _ c.args.self.now c.self.view_is c.args.node.now c.requires.stands in
    let up = up_inside g.D.Disk c.args.shared.now _ c.args.self.now c.self.view_is c.args.node.now c.requires.up in
    ends_inside g.D.Disk c.args.shared.now _ c.args.self.now _ c.self.view_is c.args.node.now c.commit_trx.new.node c.args.session c.args.trx (ends.Unknown c.in-Err-Unknown.cts)
    (doubt_ends g.D.Disk c.args.shared.now _ c.args.node.now stands up c.args.session c.args.trx c.commit_trx.new.self c.commit_trx.new.media c.commit_trx.new.node c.commit_trx.ensures.desk c.commit_trx.ensures.own c.commit_trx.ensures.counts.no_fall c.commit_trx.ensures.tells
    (λ s found. c.requires.wrote s (subst (λ (v : PrimaryView g.row.D.Denot). IsSessionOf v c.args.session s) c.self.view_is found))
    (c.in-Err-Unknown.ensures.media _ (media_before g.D.Disk c.args.shared.now _ c.args.node.now stands up c.args.session c.args.trx))
    c.in-Err-Unknown.ensures.counts.cause c.in-Err-Unknown.cts
    (subst (λ (h : CommitHalt). StopsCommit c.self.inside.number c.args.trx c.args.node.now c.commit_trx.new.node h) c.in-Err-Unknown.field-0-is c.in-Err-Unknown.ensures.stopped) c.commit_trx.ensures.later)
