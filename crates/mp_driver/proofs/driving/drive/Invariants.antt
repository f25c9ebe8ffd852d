-- The run went on so far, and what is left to try is of the members' sessions.
use Rattle.std.proofs.Common.{length}
use Rattle.mp_driver.specs.Driving.{AreOnMembers, DrivesOn}
use Rattle.mp_driver.proofs.driving.drive.Given as goal

abbrev pub invariant-loop : goal.invariant-loop
invariant-loop g l = record {
  can_next : (goal.iterator-loop g).can_next l.iterator';
  is_finite : (goal.iterator-loop g).is_finite l.iterator';
  drives : DrivesOn g.D.Disk l.initial.members l.members;
  on : AreOnMembers l.sessions (length l.initial.members.primaries.items) l.schedule.tries.items;
}
