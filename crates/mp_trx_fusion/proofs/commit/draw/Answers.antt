use Rattle.std.proofs.Common.{ap, ◌∙◌, ◌+◌, sym, arith}
use Rattle.mp_core_trx.specs.declared.event.TrxEvent.TheVariants.{DrawTso}
use Rattle.mp_core.specs.declared.event.CoreEvent.TheVariants.{Trx}
use Rattle.mp_trx_fusion.proofs.Sights.{knew, counted}
use Rattle.mp_trx_fusion.proofs.commit.draw.Goals as goal

pub returns-clause-above : goal.returns-clause-above
returns-clause-above c q has =
    let told = c.draw_tso.ensures in
    let below = knew (Trx (DrawTso c.args.p c.args.id)) _ _ told.0 told.2 c.args.p q has in
    omega (arith, below, told.1, told.2.came.found_is)

pub returns-clause-exact : goal.returns-clause-exact
returns-clause-exact c all =
    let told = c.draw_tso.ensures in
    told.1 ∙ ap (λ k. k + 1) (sym told.2.came.found_is ∙ counted (Trx (DrawTso c.args.p c.args.id)) _ _ told.0 told.2 all)
