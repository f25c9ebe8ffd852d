use Rattle.std.proofs.Common.{arith, lit≤}
use Rattle.mp_shared.proofs.FreshStores.{fresh_fits}
use Rattle.mp_desk_tests.proofs.FirstParts.{first_fresh, first_alone, first_without, first_held}
use Rattle.mp_desk_tests.proofs.handover.hand_over_counted.Goals as goal

pub open-requires : goal.open-requires
open-requires g c = fresh_fits 3 3 _ c.in_ok-pages.ensures (lit≤ tt) (lit≤ tt) (lit≤ tt)

pub split-requires-clause-part : goal.split-requires-clause-part
split-requires-clause-part g c =
    let opened = c.in_ok-shared.ensures.opened in
    first_held c.in_ok-shared.first 2 (first_fresh 3 3 _ c.in_ok-shared.shared c.in_ok-shared.first opened.0 opened.1 2 (lit≤ tt) (lit≤ tt))

pub split-requires-2-clause-part : goal.split-requires-2-clause-part
split-requires-2-clause-part g c =
    let opened = c.in_ok-shared.ensures.opened in
    first_held c.split.new.node 3
    (first_without c.in_ok-shared.first c.split.new.node 2 c.in_ok-second.ensures.parted.1 3 (λ e. absurd (omega arith))
    (first_fresh 3 3 _ c.in_ok-shared.shared c.in_ok-shared.first opened.0 opened.1 3 (lit≤ tt) (lit≤ tt)))

pub begin_first-before-requires-clause-first : goal.begin_first-before-requires-clause-first
begin_first-before-requires-clause-first g c =
    let opened = c.in_ok-shared.ensures.opened in
    first_alone c.split.new.node c.in_ok-third.third 3 c.in_ok-third.ensures.parted.0
    (first_without c.in_ok-shared.first c.split.new.node 2 c.in_ok-second.ensures.parted.1 3 (λ e. absurd (omega arith))
    (first_fresh 3 3 _ c.in_ok-shared.shared c.in_ok-shared.first opened.0 opened.1 3 (lit≤ tt) (lit≤ tt)))

pub begin_first-writer-requires-clause-first : goal.begin_first-writer-requires-clause-first
begin_first-writer-requires-clause-first g c =
    let opened = c.in_ok-shared.ensures.opened in
    first_without c.split.new.node c.split-2.new.node 3 c.in_ok-third.ensures.parted.1 1 (λ e. absurd (omega arith))
    (first_without c.in_ok-shared.first c.split.new.node 2 c.in_ok-second.ensures.parted.1 1 (λ e. absurd (omega arith))
    (first_fresh 3 3 _ c.in_ok-shared.shared c.in_ok-shared.first opened.0 opened.1 1 (lit≤ tt) (lit≤ tt)))

pub begin_first-after-requires-clause-first : goal.begin_first-after-requires-clause-first
begin_first-after-requires-clause-first g c =
    let opened = c.in_ok-shared.ensures.opened in
    first_alone c.in_ok-shared.first c.in_ok-second.second 2 c.in_ok-second.ensures.parted.0
    (first_fresh 3 3 _ c.in_ok-shared.shared c.in_ok-shared.first opened.0 opened.1 2 (lit≤ tt) (lit≤ tt))
