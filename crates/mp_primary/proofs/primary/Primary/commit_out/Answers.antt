use Rattle.std.proofs.Common.{sym, ap, subst, ◌∙◌}
use Rattle.mp_primary.specs.Primaries.{PrimaryView}
use Rattle.mp_primary.specs.Turns.{IsSessionOf}
use Rattle.mp_primary.specs.OutsideCalls.{HasOpen}
use Rattle.mp_primary.specs.Commits.{stamp_at_end, EndsByCommit}
use Rattle.mp_primary.proofs.OpenTrx.{indexed_stage}
use Rattle.mp_primary.proofs.CommitsOutside.{calls_outside_inside, ends_as_inside}
use Rattle.mp_primary.proofs.primary.Primary.commit_out.Goals as goal

pub returns-clause-calls : goal.returns-clause-calls
returns-clause-calls g c =
    let s = c.requires.has.1.0 in
    let found = c.requires.has.1.1 in
    let found_inside = subst (λ (v : PrimaryView g.row.D.Denot). IsSessionOf v c.args.session s) (sym c.self.view_is) found in
    let stage = sym (indexed_stage _ c.args.session s c.index.result.now found_inside c.index.ensures) ∙ c.in-Open.is in
    let has : HasOpen c.args.self.now c.args.session c.in-Open.trx = (s, found, stage) in
    let end = c.end_by_commit-end.result in
    let after = c.end_by_commit-end.new.node in
    let ended = subst (λ (v : PrimaryView g.row.D.Denot). EndsByCommit g.D.Disk c.args.shared.now c.args.self.now v c.args.node.now after c.args.session c.in-Open.trx end) (sym c.self-2.view_is) c.end_by_commit-end.ensures.ended in
    calls_outside_inside g.D.Disk c.args.shared.now c.args.self.now _ c.take_out.new.self c.args.node.now after c.args.session c.in-Open.trx end c.left_at_end.result c.requires.stands c.requires.up ended has c.left_at_end.ensures c.take_out.ensures.set c.take_out.ensures.book

pub returns-clause-ended : goal.returns-clause-ended
returns-clause-ended g c =
    let s = c.requires.has.1.0 in
    let found = c.requires.has.1.1 in
    let found_inside = subst (λ (v : PrimaryView g.row.D.Denot). IsSessionOf v c.args.session s) (sym c.self.view_is) found in
    let stage = sym (indexed_stage _ c.args.session s c.index.result.now found_inside c.index.ensures) ∙ c.in-Open.is in
    let has : HasOpen c.args.self.now c.args.session c.in-Open.trx = (s, found, stage) in
    let end = c.end_by_commit-end.result in
    let after = c.end_by_commit-end.new.node in
    let ended = subst (λ (v : PrimaryView g.row.D.Denot). EndsByCommit g.D.Disk c.args.shared.now c.args.self.now v c.args.node.now after c.args.session c.in-Open.trx end) (sym c.self-2.view_is) c.end_by_commit-end.ensures.ended in
    ends_as_inside g.D.Disk c.args.shared.now c.args.self.now _ c.take_out.new.self c.args.node.now after c.args.session c.in-Open.trx end c.left_at_end.result c.requires.stands c.requires.up ended has c.left_at_end.ensures c.take_out.ensures.set c.take_out.ensures.book

pub returns-clause-exact : goal.returns-clause-exact
returns-clause-exact g c cts is all = c.end_by_commit-end.ensures.exact cts (ap stamp_at_end is) all
