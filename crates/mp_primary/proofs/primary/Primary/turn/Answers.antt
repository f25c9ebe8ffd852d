use Rattle.std.proofs.Common.{ℕ, Option, sym, subst}
use Rattle.mp_primary.specs.Turns.{TakesTurn}
use Rattle.mp_primary.proofs.primary.Primary.turn.Goals as goal

pub returns-in-None-clause-turn : goal.returns-in-None-clause-turn
returns-in-None-clause-turn g c =
    subst (λ (o : Option ℕ). TakesTurn g.D.Disk c.args.shared.now c.args.self.now c.args.self.now c.args.node.now c.args.node.now o c.rest.result) (sym c.in-None.is)
    (c.rest.ensures c.args.shared.now c.args.node.now c.requires.stands c.requires.told)
