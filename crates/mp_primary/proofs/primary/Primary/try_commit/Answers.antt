use Rattle.std.proofs.Common.{sym, subst}
use Rattle.mp_primary.specs.Primaries.{PrimaryView}
use Rattle.mp_primary.specs.Commits.{EndsByCommit}
use Rattle.mp_primary.proofs.CommittedTurns.{committed_inside}
use Rattle.mp_primary.proofs.primary.Primary.try_commit.Goals as goal

pub returns : goal.returns
returns g c =
    let end = c.end_by_commit-end.result in
    let after = c.end_by_commit-end.new.node in
    let ended = subst (λ (v : PrimaryView g.row.D.Denot). EndsByCommit g.D.Disk c.args.shared.now c.args.self.now v c.args.node.now after c.args.number c.args.trx end) (sym c.self.view_is) c.end_by_commit-end.ensures.ended in
    committed_inside g.D.Disk c.args.shared.now c.args.self.now _ c.answer.new.self c.args.node.now after c.args.number c.args.trx end c.reply_at_end-reply.result c.requires.tries ended c.reply_at_end-reply.ensures
    c.end_by_commit-end.ensures.above c.end_by_commit-end.ensures.exact c.answer.ensures.answered c.answer.ensures.book
