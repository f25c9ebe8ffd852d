use Rattle.std.proofs.Common.{List, subst}
use Rattle.mp_script.specs.declared.statements.SessionOn.{SessionOn}
use Rattle.mp_primary.specs.Downs.{NeedsOf}
use Rattle.mp_primary.proofs.DownTellings.{may_load_inside}
use Rattle.mp_primary.proofs.Lookings.{looks_inside}
use Rattle.mp_primary.proofs.primary.Primary.look_at.Goals as goal

pub load_down-requires-clause-step : goal.load_down-requires-clause-step
load_down-requires-clause-step g c = may_load_inside g.D.Disk c.args.shared.now _ c.args.self.now c.self.view_is c.args.node.now c.requires.tried c.args.of c.requires.of_one

pub returns : goal.returns
returns g c =
    let needs = subst (λ (l : List SessionOn). NeedsOf l c.args.cause c.args.of) c.as_slice.ensures (c.needs_of.ensures.yes c.if-not-needs_of.false) in
    looks_inside g.D.Disk c.args.shared.now _ c.args.self.now c.self.view_is c.args.cause c.args.of c.args.node.now c.requires.tried c.requires.of_one c.if-of-self.false needs
    c.load_down.result c.load_down.new.node c.load_down.ensures.step c.load_down.ensures.loaded
