use Rattle.std.proofs.Common.{lit≤}
use Rattle.mp_shared.proofs.FreshStores.{fresh_fits}
use Rattle.mp_desk_tests.proofs.FirstParts.{first_fresh}
use Rattle.mp_changes.proofs.change_runs.changes_alone.Goals as goal

pub open-requires : goal.open-requires
open-requires g c = fresh_fits 4 4 _ c.in_ok-pages.ensures (lit≤ tt) (lit≤ tt) (lit≤ tt)

pub changes_over-node-requires-clause-first : goal.changes_over-node-requires-clause-first
changes_over-node-requires-clause-first g c =
    let opened = c.in_ok-shared.ensures.opened in
    first_fresh 4 4 _ c.in_ok-shared.shared c.in_ok-shared.node opened.0 opened.1 1 (lit≤ tt) (lit≤ tt)
