use Rattle.std.proofs.Common.{Some, sym, ap, subst, ◌∙◌}
use Rattle.mp_model.specs.declared.waiting.Turn.{Turn}
use Rattle.mp_model.specs.declared.waiting.Turn.TheVariants as turns
use Rattle.mp_primary.specs.Primaries.{PrimaryView}
use Rattle.mp_primary.specs.Turns.{TakesTurn}
use Rattle.mp_primary.proofs.PlainTurns.{to_stop}
use Rattle.mp_primary.proofs.TakenTurns.{taken_still, stays_down}
use Rattle.mp_primary.proofs.primary.Primary.try_line.Goals as goal

pub returns-then-self-ne0-clause-turn : goal.returns-then-self-ne0-clause-turn
returns-then-self-ne0-clause-turn g c =
    let own = c.requires.comes in
    let tries = c.stop.ensures.stops c.args.shared.now c.args.node.now own.0 c.args.line (to_stop g.D.Disk c.args.shared.now c.args.self.now c.args.node.now c.args.number own.0 c.args.line own.1) in
    subst (λ (t : Turn). TakesTurn g.D.Disk c.args.shared.now c.args.self.now c.stop.new.self c.args.node.now c.args.node.now (Some c.args.number) t) (sym c.stop.ensures.answered)
    (taken_still g.D.Disk c.args.shared.now c.args.self.now c.stop.new.self c.args.node.now (Some c.args.number) turns.Answered own.1.stands c.requires.told tries
    (stays_down g.D.Disk c.args.shared.now c.args.self.now c.stop.new.self c.args.node.now c.args.node.now (Some c.args.number) turns.Answered tries
    (λ zero. c.if-self-ne0.true (ap (λ (v : PrimaryView g.row.D.Denot). v.down) c.self.view_is ∙ zero))) tt)

pub end_line-requires : goal.end_line-requires
end_line-requires g c =
    let own = c.requires.comes in
    record {
      tried = (
        c.args.self.now,
        c.args.node.now,
        own.0,
        c.args.line,
        record { comes = own.1; up = sym (ap (λ (v : PrimaryView g.row.D.Denot). v.down) c.self.view_is) ∙ c.if-self-ne0.false; told = c.requires.told; tries = c.in-Ok.ensures.turn },
      );
    }

pub returns-in-Ok-clause-turn : goal.returns-in-Ok-clause-turn
returns-in-Ok-clause-turn g c =
    let own = c.requires.comes in
    c.end_line.ensures c.args.self.now c.args.node.now own.0 c.args.line
    (record { comes = own.1; up = sym (ap (λ (v : PrimaryView g.row.D.Denot). v.down) c.self.view_is) ∙ c.if-self-ne0.false; told = c.requires.told; tries = c.in-Ok.ensures.turn })
