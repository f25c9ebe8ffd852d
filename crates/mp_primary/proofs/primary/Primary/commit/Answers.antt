use Rattle.mp_primary.proofs.OutsideEnds.{tried_out, calls_told}
use Rattle.mp_primary.proofs.primary.Primary.commit.Goals as goal

pub tell_down-requires : goal.tell_down-requires
tell_down-requires g c = tried_out g.D.Disk c.args.shared.now c.args.self.now c.commit_out-end.new.self c.args.node.now c.commit_out-end.new.node c.args.session c.requires.stands c.requires.told c.requires.up c.commit_out-end.ensures.calls

pub returns-clause-calls : goal.returns-clause-calls
returns-clause-calls g c =
    calls_told g.D.Disk c.args.shared.now c.args.self.now c.commit_out-end.new.self c.args.node.now c.commit_out-end.new.node c.args.session c.requires.stands c.requires.told c.requires.up c.commit_out-end.ensures.calls
    c.tell_down.new.node c.tell_down.ensures
