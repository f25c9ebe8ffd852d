use Rattle.mp_desk_tests.proofs.FirstParts.{at_first_desk, afresh_empty}
use Rattle.mp_desk_tests.proofs.handover.seen_by.Goals as goal

pub get-requires-clause-desk : goal.get-requires-clause-desk
get-requires-clause-desk g c =
    let new = c.in_ok-desk.ensures in
    at_first_desk c.args.node.now c.args.p c.in_ok-desk.desk c.requires.fresh new.0 c.args.shared.now c.requires.node.0 c.requires.node.1
    c.requires.reached new.1 new.2

pub get-requires-clause-afresh : goal.get-requires-clause-afresh
get-requires-clause-afresh g c = afresh_empty c.args.node.now c.args.p c.in_ok-desk.desk c.in_ok-desk.ensures.0
