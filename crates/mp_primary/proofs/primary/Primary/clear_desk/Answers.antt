use Rattle.mp_primary.proofs.ClearedDesks.{media_somehow, cleared_by, down_by}
use Rattle.mp_primary.proofs.primary.Primary.clear_desk.Goals as goal

pub let_go-requires-clause-agrees : goal.let_go-requires-clause-agrees
let_go-requires-clause-agrees g c =
    let w = c.requires.work in
    media_somehow g.D.Disk c.args.shared.now w.0 _ c.args.self.now c.self.view_is w.1 c.args.node.now c.args.node.now w.2 w.3

pub returns-in-Err-clause-down : goal.returns-in-Err-clause-down
returns-in-Err-clause-down g c = λ old before trace work.
    down_by g.D.Disk c.args.shared.now old _ c.args.self.now c.self.view_is before c.args.node.now c.let_go.new.node trace work
    c.let_go.new.self c.let_go.new.media c.let_go.ensures.desk
    c.in-Err.ensures.refused.0 c.in-Err.ensures.refused.1
    (λ w agree. (c.in-Err.ensures.media w agree).1) c.in-Err.ensures.closed c.in-Err.ensures.counts.no_fall
    c.in-Err.ensures.counts.cause c.let_go.ensures.tells

pub returns-clause-cleared : goal.returns-clause-cleared
returns-clause-cleared g c = λ old before trace work.
    cleared_by g.D.Disk c.args.shared.now old _ c.args.self.now c.self.view_is before c.args.node.now c.let_go.new.node trace work
    c.let_go.new.self c.let_go.new.media c.let_go.ensures.desk
    c.in_default.ensures.gone c.in_default.ensures.emptied
    (λ w agree. (c.in_default.ensures.media w agree).0) c.in_default.ensures.unforced c.in_default.ensures.open
    c.in_default.ensures.counts.no_fall c.let_go.ensures.tells
