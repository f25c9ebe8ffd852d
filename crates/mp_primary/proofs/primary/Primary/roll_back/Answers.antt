use Rattle.mp_primary.proofs.OutsideEnds.{tried_out, backs_up, calls_still, calls_refused, ends_refused}
use Rattle.mp_primary.proofs.primary.Primary.roll_back.Goals as goal

pub refuse_back-requires-clause-up : goal.refuse_back-requires-clause-up
refuse_back-requires-clause-up g c = λ wait is.
    backs_up g.D.Disk c.args.self.now c.back_out.new.self c.args.node.now c.back_out.new.node c.args.session c.requires.has.0 c.in-Err.halt (c.in-Err.ensures.ended c.requires.has.0 c.requires.has.1) wait is

pub refuse_back-requires-clause-tried : goal.refuse_back-requires-clause-tried
refuse_back-requires-clause-tried g c = tried_out g.D.Disk c.args.shared.now c.args.self.now c.back_out.new.self c.args.node.now c.back_out.new.node c.args.session c.requires.stands c.requires.told c.requires.up c.in-Err.ensures.calls

pub returns-in-Ok-clause-calls : goal.returns-in-Ok-clause-calls
returns-in-Ok-clause-calls g c =
    calls_still g.D.Disk c.args.shared.now c.args.self.now c.back_out.new.self c.args.node.now c.back_out.new.node c.args.session c.requires.stands c.requires.told c.requires.up c.in-Ok.ensures.calls
    (c.in-Ok.ensures.ended c.requires.has.0 c.requires.has.1).0

pub returns-in-Err-clause-calls : goal.returns-in-Err-clause-calls
returns-in-Err-clause-calls g c =
    calls_refused g.D.Disk c.args.shared.now c.args.self.now c.back_out.new.self c.args.node.now c.back_out.new.node c.args.session c.requires.stands c.requires.told c.requires.up c.in-Err.ensures.calls
    c.refuse_back.new.self c.refuse_back.new.node c.in-Err.halt c.refuse_back.result c.refuse_back.ensures

pub returns-in-Err-clause-ended : goal.returns-in-Err-clause-ended
returns-in-Err-clause-ended g c = λ trx has.
    ends_refused g.D.Disk c.args.shared.now c.args.self.now c.back_out.new.self c.args.node.now c.back_out.new.node c.args.session c.requires.stands c.requires.told c.requires.up c.in-Err.ensures.calls
    c.refuse_back.new.self c.refuse_back.new.node c.in-Err.halt c.refuse_back.result c.refuse_back.ensures trx (c.in-Err.ensures.ended trx has)
