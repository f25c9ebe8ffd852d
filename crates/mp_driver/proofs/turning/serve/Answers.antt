-- A turn more of a run that went on so far.
use Rattle.std.proofs.Common.{arith}
use Rattle.mp_members.proofs.SameMembers.{AreSameMembers-trans}
use Rattle.mp_driver.proofs.Turned.{DrivesOn-trans, runs_still}
use Rattle.mp_driver.proofs.turning.serve.Goals as goal

pub turn_at-requires-clause-runs : goal.turn_at-requires-clause-runs
turn_at-requires-clause-runs g c = runs_still g.D.Disk c.args.members.now c.loop-place.members c.loop-place.invariant c.requires.runs

pub turn_at-requires-clause-place : goal.turn_at-requires-clause-place
turn_at-requires-clause-place g c =
    let count = c.loop-place.invariant.same.count in
    let lt = c.loop-place-test.true in
    omega (arith, count, lt)

pub returns-in_err-_turn-clause-same : goal.returns-in_err-_turn-clause-same
returns-in_err-_turn-clause-same g c = AreSameMembers-trans g.D.Disk c.args.members.now c.loop-place.members c.turn_at.new.members c.loop-place.invariant.same c.turn_at.ensures.same

pub loop-place-preserved : goal.loop-place-preserved
loop-place-preserved g c = DrivesOn-trans g.D.Disk c.args.members.now c.loop-place.members c.turn_at.new.members c.loop-place.invariant c.in_ok-_turn.ensures.turn.drives
