use Rattle.std.proofs.Common.{◌-◌, ◌≤◌}
use Rattle.mp_core_pages.specs.declared.opening.TheConstants.{PAGES}
use Rattle.mp_desk.proofs.GivenBack.{ReleasedUpTo}
use Rattle.mp_desk.proofs.desk.Desk.release_all.Given as goal

abbrev pub invariant-locks : goal.invariant-locks
invariant-locks l = (l.from ≤ PAGES) × ReleasedUpTo l.fn.shared l.fn.self l.fn.p l.fn.node l.from l.node

abbrev pub decreases-locks : goal.decreases-locks
decreases-locks l = PAGES - l.from
