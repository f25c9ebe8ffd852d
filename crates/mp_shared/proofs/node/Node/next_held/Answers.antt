use Rattle.std.proofs.Common.{subst}
use Rattle.mp_shared.specs.Nodes.{Reached}
use Rattle.mp_shared.proofs.Numbered.{numbered}
use Rattle.mp_shared.proofs.Holding.{held_part}
use Rattle.mp_shared.proofs.node.Node.next_held.Goals as goal

pub next-requires : goal.next-requires
next-requires c =
    let reached : Reached c.args.self.now = subst Reached c.self.view_is record { fair = c.self.invariant.fair; backed = c.self.invariant.backed } in
    let held = held_part c.args.self.now c.args.p c.requires.part in
    numbered c.args.self.now reached c.args.p held.0 held.1 held.2
