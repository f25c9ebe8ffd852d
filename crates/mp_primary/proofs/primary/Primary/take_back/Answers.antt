use Rattle.std.proofs.Common.{◌≡◌, Some, refl, ◌∙◌}
use Rattle.mp_primary.proofs.BackTurns.{back_of}
use Rattle.mp_primary.proofs.TakenBack.{comes_counted, counted, then_answered, no_trx_taken, read_trx}
use Rattle.mp_primary.proofs.primary.Primary.take_back.Goals as goal

pub unreachable-requires : goal.unreachable-requires
unreachable-requires g c =
    let own = c.requires.comes in
    no_trx_taken (own.0).stage own.3 (read_trx _ c.args.self.now c.self.view_is c.args.number own.0 own.2.next.found c.index.result.now c.index.ensures c.trx_at.result c.trx_at.ensures ∙ c.in_default.is)

pub go_back-requires-clause-back : goal.go_back-requires-clause-back
go_back-requires-clause-back g c =
    let own = c.requires.comes in
    (own.0, c.in-Some.trx, back_of g.D.Disk c.args.shared.now c.args.self.now c.args.node.now c.args.number own.2.stands c.requires.up own.0 c.in-Some.trx own.2.next.found own.3 (read_trx _ c.args.self.now c.self.view_is c.args.number own.0 own.2.next.found c.index.result.now c.index.ensures c.trx_at.result c.trx_at.ensures ∙ c.in-Some.is), refl)

pub answer_back-requires-clause-comes : goal.answer_back-requires-clause-comes
answer_back-requires-clause-comes g c =
    let own = c.requires.comes in (
      counted g.D.Disk c.args.shared.now c.args.self.now c.go_back.new.self c.args.node.now c.go_back.new.node c.args.number own.0 own.1 own.2 c.go_back.ensures.quiet c.go_back.ensures.counts,
      own.1,
      comes_counted g.D.Disk c.args.shared.now c.args.self.now c.go_back.new.self c.args.node.now c.go_back.new.node c.args.number own.0 own.1 own.2 c.go_back.ensures.quiet c.go_back.ensures.counts,
      own.3,
      read_trx _ c.args.self.now c.self.view_is c.args.number own.0 own.2.next.found c.index.result.now c.index.ensures c.trx_at.result c.trx_at.ensures ∙ c.in-Some.is,
    )

pub returns-in-Ok : goal.returns-in-Ok
returns-in-Ok g c =
    let own = c.requires.comes in
    then_answered g.D.Disk c.args.shared.now c.args.self.now c.go_back.new.self c.args.node.now c.go_back.new.node c.args.number own.0 own.1 own.2 c.go_back.ensures.quiet c.go_back.ensures.counts c.answer_back.new.self c.answer_back.new.node c.answer_back.ensures

pub halt_back-requires : goal.halt_back-requires
halt_back-requires g c =
    let own = c.requires.comes in
    record { halted = (c.args.shared.now, c.args.self.now, c.args.node.now, c.go_back.new.node, own.0, own.1, record { comes = own.2; quiet = c.go_back.ensures.quiet; counts = c.go_back.ensures.counts; left = c.in-Err.ensures.cause }) }

pub returns-in-Err : goal.returns-in-Err
returns-in-Err g c =
    let own = c.requires.comes in
    c.halt_back.ensures c.args.shared.now c.args.self.now c.args.node.now c.go_back.new.node own.0 own.1 (record { comes = own.2; quiet = c.go_back.ensures.quiet; counts = c.go_back.ensures.counts; left = c.in-Err.ensures.cause })
