-- The primary went on so far, and may go on.
use Rattle.mp_threads.specs.Dealing.{DroveAlone}
use Rattle.mp_threads.proofs.on_thread.drive_alone.Given as goal

abbrev pub invariant-loop : goal.invariant-loop
invariant-loop g l = record {
  can_next : (goal.iterator-loop g).can_next l.iterator';
  is_finite : (goal.iterator-loop g).is_finite l.iterator';
  drove : DroveAlone g.D.Disk l.shared l.initial.primary l.primary l.initial.runner l.runner;
}
