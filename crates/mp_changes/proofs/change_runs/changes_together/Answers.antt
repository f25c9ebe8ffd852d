use Rattle.std.proofs.Common.{arith, lit≤}
use Rattle.mp_shared.proofs.FreshStores.{fresh_fits}
use Rattle.mp_desk_tests.proofs.FirstParts.{first_fresh, first_alone, first_without, first_held}
use Rattle.mp_changes.proofs.change_runs.changes_together.Goals as goal

pub open-requires : goal.open-requires
open-requires g c = fresh_fits 4 4 _ c.in_ok-pages.ensures (lit≤ tt) (lit≤ tt) (lit≤ tt)

pub split-requires-clause-part : goal.split-requires-clause-part
split-requires-clause-part g c =
    let opened = c.in_ok-shared.ensures.opened in
    first_held c.in_ok-shared.first 2 (first_fresh 4 4 _ c.in_ok-shared.shared c.in_ok-shared.first opened.0 opened.1 2 (lit≤ tt) (lit≤ tt))

pub split-requires-2-clause-part : goal.split-requires-2-clause-part
split-requires-2-clause-part g c =
    let opened = c.in_ok-shared.ensures.opened in
    first_held c.split.new.node 3
    (first_without c.in_ok-shared.first c.split.new.node 2 c.in_ok-second.ensures.parted.1 3 (λ e. absurd (omega arith))
    (first_fresh 4 4 _ c.in_ok-shared.shared c.in_ok-shared.first opened.0 opened.1 3 (lit≤ tt) (lit≤ tt)))

pub split-requires-3-clause-part : goal.split-requires-3-clause-part
split-requires-3-clause-part g c =
    let opened = c.in_ok-shared.ensures.opened in
    first_held c.split-2.new.node 4
    (first_without c.split.new.node c.split-2.new.node 3 c.in_ok-third.ensures.parted.1 4 (λ e. absurd (omega arith))
    (first_without c.in_ok-shared.first c.split.new.node 2 c.in_ok-second.ensures.parted.1 4 (λ e. absurd (omega arith))
    (first_fresh 4 4 _ c.in_ok-shared.shared c.in_ok-shared.first opened.0 opened.1 4 (lit≤ tt) (lit≤ tt))))

pub changes_by_four-low-requires-clause-low : goal.changes_by_four-low-requires-clause-low
changes_by_four-low-requires-clause-low g c κs lives =
    let opened = c.in_ok-shared.ensures.opened in (
      first_without c.split-2.new.node c.split-3.new.node 4 c.in_ok-fourth.ensures.parted.1 1 (λ e. absurd (omega arith))
          (first_without c.split.new.node c.split-2.new.node 3 c.in_ok-third.ensures.parted.1 1 (λ e. absurd (omega arith))
          (first_without c.in_ok-shared.first c.split.new.node 2 c.in_ok-second.ensures.parted.1 1 (λ e. absurd (omega arith))
          (first_fresh 4 4 _ c.in_ok-shared.shared c.in_ok-shared.first opened.0 opened.1 1 (lit≤ tt) (lit≤ tt)))),
      first_alone c.in_ok-shared.first c.in_ok-second.second 2 c.in_ok-second.ensures.parted.0
          (first_fresh 4 4 _ c.in_ok-shared.shared c.in_ok-shared.first opened.0 opened.1 2 (lit≤ tt) (lit≤ tt)),
    )

pub changes_by_four-low-requires-clause-high : goal.changes_by_four-low-requires-clause-high
changes_by_four-low-requires-clause-high g c κs lives =
    let opened = c.in_ok-shared.ensures.opened in (
      first_alone c.split.new.node c.in_ok-third.third 3 c.in_ok-third.ensures.parted.0
          (first_without c.in_ok-shared.first c.split.new.node 2 c.in_ok-second.ensures.parted.1 3 (λ e. absurd (omega arith))
          (first_fresh 4 4 _ c.in_ok-shared.shared c.in_ok-shared.first opened.0 opened.1 3 (lit≤ tt) (lit≤ tt))),
      first_alone c.split-2.new.node c.in_ok-fourth.fourth 4 c.in_ok-fourth.ensures.parted.0
          (first_without c.split.new.node c.split-2.new.node 3 c.in_ok-third.ensures.parted.1 4 (λ e. absurd (omega arith))
          (first_without c.in_ok-shared.first c.split.new.node 2 c.in_ok-second.ensures.parted.1 4 (λ e. absurd (omega arith))
          (first_fresh 4 4 _ c.in_ok-shared.shared c.in_ok-shared.first opened.0 opened.1 4 (lit≤ tt) (lit≤ tt)))),
    )
