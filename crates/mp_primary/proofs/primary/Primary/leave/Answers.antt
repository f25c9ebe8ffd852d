use Rattle.std.proofs.Common.{ℕ, Some, refl, sym, ap, subst}
use Rattle.mp_model.specs.declared.waiting.Turn.TheVariants as turns
use Rattle.mp_primary.specs.Primaries.{PrimaryView}
use Rattle.mp_primary.specs.Turns.{TakesTurn}
use Rattle.mp_primary.proofs.QuietTurns.{stopped_turn}
use Rattle.mp_primary.proofs.TakenBack.{unprinted_may, unprinted_over}
use Rattle.mp_primary.proofs.TakenTurns.{taken_still, heeded_taken, leaving_stopped}
use Rattle.mp_primary.proofs.primary.Primary.leave.Goals as goal

pub returns-then-self-ne0 : goal.returns-then-self-ne0
returns-then-self-ne0 g c =
    let own = c.requires.session in
    taken_still g.D.Disk c.args.shared.now c.args.self.now c.args.self.now c.args.node.now (Some c.args.number) (turns.Stopped c.self.inside.down) c.requires.stands c.requires.told
    (stopped_turn g.D.Disk c.args.shared.now c.args.self.now c.args.node.now c.requires.stands (Some c.args.number) (unprinted_may c.args.self.now c.args.number own.session own.found own.task) c.self.inside.down (ap (λ (v : PrimaryView g.row.D.Denot). v.down) c.self.view_is) c.if-self-ne0.true
    (unprinted_over c.args.self.now c.args.number own.session own.found own.task)) refl tt

pub returns-then-heed : goal.returns-then-heed
returns-then-heed g c =
    let own = c.requires.session in
    let down = c.heed.ensures.down c.if-heed.true in
    subst (λ (k : ℕ). TakesTurn g.D.Disk c.args.shared.now c.args.self.now c.heed.new.self c.args.node.now c.heed.new.node (Some c.args.number) (turns.Stopped k)) (sym (ap (λ (v : PrimaryView g.row.D.Denot). v.down) c.self-2.view_is))
    (leaving_stopped g.D.Disk c.args.shared.now c.args.self.now c.leave_now-turn.new.self c.args.node.now c.leave_now-turn.new.node (Some c.args.number) c.leave_now-turn.result c.requires.stands c.requires.told c.leave_now-turn.ensures
    c.args.number refl down.0 down.1 c.heed.new.self c.heed.new.node down.2 (unprinted_over c.args.self.now c.args.number own.session own.found own.task))

pub returns : goal.returns
returns g c =
    heeded_taken g.D.Disk c.args.shared.now c.args.self.now c.leave_now-turn.new.self c.args.node.now c.leave_now-turn.new.node c.args.number c.leave_now-turn.result c.requires.stands c.requires.told c.leave_now-turn.ensures
    c.heed.new.self c.heed.new.node (c.heed.ensures.stays c.if-heed.false)
