use Rattle.std.proofs.Common.{◌≡◌, ℕ, None, sym, ap, subst}
use Rattle.mp_core_trx.specs.Events.{with_end}
use Rattle.mp_trx_fusion.specs.Calls.{with_trx}
use Rattle.mp_primary.specs.Primaries.{PrimaryView}
use Rattle.mp_primary.specs.Turns.{IsSessionOf}
use Rattle.mp_primary.proofs.OpenTrx.{true_not_false, indexed_none, indexed_some, open_part, open_has, open_node, opened, is_active, no_formers, stands_inside, up_inside, open_inside}
use Rattle.mp_primary.proofs.FreedSlots.{may_end}
use Rattle.mp_primary.proofs.CommitEnds.{freed_ends}
use Rattle.mp_primary.proofs.primary.Primary.end_by_commit.Goals as goal

pub free-requires-clause-may : goal.free-requires-clause-may
free-requires-clause-may g c =
    let stands = stands_inside g.D.Disk c.args.shared.now _ c.args.self.now c.self.view_is c.args.node.now c.requires.stands in
    let up = up_inside g.D.Disk c.args.shared.now _ c.args.self.now c.self.view_is c.args.node.now c.requires.up in
    let open_trx = open_inside g.D.Disk c.args.shared.now _ c.args.self.now c.self.view_is c.args.node.now c.args.session c.args.trx c.requires.open in
    let none = indexed_none _ c.args.session open_trx.0 c.index.result.now open_trx.1 c.index.ensures (c.is_empty.ensures.0 c.if-is_empty.true) in
    may_end c.args.node.now stands.desk.reached c.self.inside.number (open_part g.D.Disk c.args.shared.now _ c.args.node.now stands up) (open_has g.D.Disk c.args.shared.now _ c.args.node.now stands up) (open_node g.D.Disk c.args.shared.now _ c.args.node.now stands up) c.args.trx
    (opened g.D.Disk c.args.shared.now _ c.args.node.now stands up c.args.session c.args.trx open_trx.0 open_trx.1 open_trx.2).begun
    (is_active g.D.Disk c.args.shared.now _ c.args.node.now stands up c.args.session c.args.trx open_trx.0 open_trx.1 open_trx.2)
    (no_formers g.D.Disk c.args.shared.now _ c.args.node.now stands up c.args.session c.args.trx open_trx.0 open_trx.1 open_trx.2 none)

pub returns-then-is_empty-clause-ended : goal.returns-then-is_empty-clause-ended
returns-then-is_empty-clause-ended g c =
    let view = c.self.view_is in
    freed_ends g.D.Disk c.args.shared.now c.args.self.now c.args.node.now c.requires.stands c.requires.up c.args.session c.args.trx c.free.new.node
    (subst (λ (k : ℕ). c.free.new.node ≡ with_trx c.args.node.now k (with_end c.args.trx.id None) 1) (ap (λ (v : PrimaryView g.row.D.Denot). v.number) view) c.free.ensures.becomes)
    c.free.ensures.reached
    (λ s found. indexed_none _ c.args.session s c.index.result.now (subst (λ (v : PrimaryView g.row.D.Denot). IsSessionOf v c.args.session s) (sym view) found) c.index.ensures (c.is_empty.ensures.0 c.if-is_empty.true))

pub commit_writes-requires-clause-wrote : goal.commit_writes-requires-clause-wrote
commit_writes-requires-clause-wrote g c = λ s found none.
    let view = c.self.view_is in
    indexed_some _ c.args.session s c.index.result.now (subst (λ (v : PrimaryView g.row.D.Denot). IsSessionOf v c.args.session s) (sym view) found) c.index.ensures (λ empty. true_not_false (c.is_empty.ensures.1 empty) c.if-is_empty.false) none
