-- A round more: a try, marks forgotten, or serving turns, behind which the run is at its end where all primaries are through.
use Rattle.std.proofs.Common.{length, sym}
use Rattle.mp_members.proofs.SameMembers.{AreSameMembers-trans}
use Rattle.mp_driver.proofs.Tried.{on_forgotten, on_as_many}
use Rattle.mp_driver.proofs.Turned.{DrivesOn-trans, runs_still}
use Rattle.mp_driver.proofs.driving.drive.Goals as goal

pub attempt-requires-clause-runs : goal.attempt-requires-clause-runs
attempt-requires-clause-runs g c = runs_still g.D.Disk c.args.members.now c.loop.members c.loop.invariant.drives c.requires.runs

pub attempt-requires-clause-on : goal.attempt-requires-clause-on
attempt-requires-clause-on g c =
    on_as_many c.args.sessions.now (length c.args.members.now.primaries.items) (length c.loop.members.primaries.items) c.loop.schedule.tries.items c.loop.invariant.drives.same.count c.loop.invariant.on

pub loop-preserved-in-Continue-1 : goal.loop-preserved-in-Continue-1
loop-preserved-in-Continue-1 g c = record {
  can_next = tt;
  is_finite = tt;
  drives = DrivesOn-trans g.D.Disk c.args.members.now c.loop.members c.attempt.new.members c.loop.invariant.drives c.in_ok-attempt-in-Try.ensures.drives;
  on = on_as_many c.args.sessions.now (length c.loop.members.primaries.items) (length c.args.members.now.primaries.items) c.attempt.new.schedule.tries.items (sym c.loop.invariant.drives.same.count) c.in_ok-attempt-in-Try.ensures.on;
}

pub returns-in_err-attempt-in-Try-clause-same : goal.returns-in_err-attempt-in-Try-clause-same
returns-in_err-attempt-in-Try-clause-same g c =
    AreSameMembers-trans g.D.Disk c.args.members.now c.loop.members c.attempt.new.members c.loop.invariant.drives.same c.attempt.ensures.same

pub loop-preserved-in-Forget : goal.loop-preserved-in-Forget
loop-preserved-in-Forget g c =
    let on = on_forgotten c.args.sessions.now (length c.args.members.now.primaries.items) c.loop.schedule.tries.items c.loop.invariant.on in
    record {
      can_next = tt;
      is_finite = tt;
      drives = c.loop.invariant.drives;
      on = λ t there. (rw (← c.forget.ensures) at on) t there;
    }

pub returns-in_err-settle-in-Over-clause-same : goal.returns-in_err-settle-in-Over-clause-same
returns-in_err-settle-in-Over-clause-same g c =
    AreSameMembers-trans g.D.Disk c.args.members.now c.loop.members c.settle.new.members c.loop.invariant.drives.same c.settle.ensures.same

pub returns-then-branch-clause-ended : goal.returns-then-branch-clause-ended
returns-then-branch-clause-ended g c = λ work given runs.
    let all = DrivesOn-trans g.D.Disk c.args.members.now c.loop.members c.settle.new.members c.loop.invariant.drives c.in_ok-settle-in-Over.ensures.drives in
    let on = all.runs work given runs in
    (on.0, on.1, c.in_ok-settle-in-Over.ensures.through c.if-branch.true)

pub returns-then-branch-clause-same : goal.returns-then-branch-clause-same
returns-then-branch-clause-same g c =
    AreSameMembers-trans g.D.Disk c.args.members.now c.loop.members c.settle.new.members c.loop.invariant.drives.same c.settle.ensures.same

pub loop-preserved : goal.loop-preserved
loop-preserved g c = record {
  can_next = tt;
  is_finite = tt;
  drives = DrivesOn-trans g.D.Disk c.args.members.now c.loop.members c.settle.new.members c.loop.invariant.drives c.in_ok-settle-in-Over.ensures.drives;
  on = c.loop.invariant.on;
}
