use Rattle.std.proofs.Common.{arith, lit≤}
use Rattle.mp_shared.proofs.Holding.{holds_joined}
use Rattle.mp_trx_fusion.proofs.Callers.{holds_part, may_begin_alone, may_begin_without, log_alone, log_without}
use Rattle.mp_trx_fusion.proofs.FreshRuns.{fresh_fits, may_begin_fresh, log_fresh}
use Rattle.mp_trials.proofs.commits.commit_together.Goals as goal

pub open-requires : goal.open-requires
open-requires g c = fresh_fits 4 800 _ c.in_ok-pages.ensures (lit≤ tt) (lit≤ tt) (lit≤ tt)

pub split-requires-clause-part : goal.split-requires-clause-part
split-requires-clause-part g c = holds_part c.in_ok-shared.first 2 1 (may_begin_fresh 4 800 _ c.in_ok-shared.shared c.in_ok-shared.first c.in_ok-shared.ensures.opened.0 c.in_ok-shared.ensures.opened.1 2 1 (lit≤ tt) (lit≤ tt) (omega arith) (omega arith))

pub split-requires-2-clause-part : goal.split-requires-2-clause-part
split-requires-2-clause-part g c = holds_part c.split.new.node 3 1 (may_begin_without c.in_ok-shared.first c.split.new.node 2 c.in_ok-second.ensures.parted.1 3 1 (λ e. absurd (omega arith)) (may_begin_fresh 4 800 _ c.in_ok-shared.shared c.in_ok-shared.first c.in_ok-shared.ensures.opened.0 c.in_ok-shared.ensures.opened.1 3 1 (lit≤ tt) (lit≤ tt) (omega arith) (omega arith)))

pub split-requires-3-clause-part : goal.split-requires-3-clause-part
split-requires-3-clause-part g c = holds_part c.split-2.new.node 4 1 (may_begin_without c.split.new.node c.split-2.new.node 3 c.in_ok-third.ensures.parted.1 4 1 (λ e. absurd (omega arith)) (may_begin_without c.in_ok-shared.first c.split.new.node 2 c.in_ok-second.ensures.parted.1 4 1 (λ e. absurd (omega arith)) (may_begin_fresh 4 800 _ c.in_ok-shared.shared c.in_ok-shared.first c.in_ok-shared.ensures.opened.0 c.in_ok-shared.ensures.opened.1 4 1 (lit≤ tt) (lit≤ tt) (omega arith) (omega arith))))

pub commit_by_four-low-requires-clause-low : goal.commit_by_four-low-requires-clause-low
commit_by_four-low-requires-clause-low g c κs lives = (
  (λ version above within. may_begin_without c.split-2.new.node c.split-3.new.node 4 c.in_ok-fourth.ensures.parted.1 1 version (λ e. absurd (omega arith)) (may_begin_without c.split.new.node c.split-2.new.node 3 c.in_ok-third.ensures.parted.1 1 version (λ e. absurd (omega arith)) (may_begin_without c.in_ok-shared.first c.split.new.node 2 c.in_ok-second.ensures.parted.1 1 version (λ e. absurd (omega arith)) (may_begin_fresh 4 800 _ c.in_ok-shared.shared c.in_ok-shared.first c.in_ok-shared.ensures.opened.0 c.in_ok-shared.ensures.opened.1 1 version (lit≤ tt) (lit≤ tt) above (omega arith)))), log_without c.split-2.new.node c.split-3.new.node 4 0 0 c.in_ok-fourth.ensures.parted.1 1 (λ e. absurd (omega arith)) (log_without c.split.new.node c.split-2.new.node 3 0 0 c.in_ok-third.ensures.parted.1 1 (λ e. absurd (omega arith)) (log_without c.in_ok-shared.first c.split.new.node 2 0 0 c.in_ok-second.ensures.parted.1 1 (λ e. absurd (omega arith)) (log_fresh 4 800 _ c.in_ok-shared.shared c.in_ok-shared.first c.in_ok-shared.ensures.opened.0 c.in_ok-shared.ensures.opened.1 1 (lit≤ tt) (lit≤ tt))))),
  (λ version above within. may_begin_alone c.in_ok-shared.first c.in_ok-second.second 2 c.in_ok-second.ensures.parted.0 version (may_begin_fresh 4 800 _ c.in_ok-shared.shared c.in_ok-shared.first c.in_ok-shared.ensures.opened.0 c.in_ok-shared.ensures.opened.1 2 version (lit≤ tt) (lit≤ tt) (omega arith) (omega arith)), log_alone c.in_ok-shared.first c.in_ok-second.second 2 0 0 c.in_ok-second.ensures.parted.0 (log_fresh 4 800 _ c.in_ok-shared.shared c.in_ok-shared.first c.in_ok-shared.ensures.opened.0 c.in_ok-shared.ensures.opened.1 2 (lit≤ tt) (lit≤ tt))),
)

pub commit_by_four-low-requires-clause-high : goal.commit_by_four-low-requires-clause-high
commit_by_four-low-requires-clause-high g c κs lives = (
  (λ version above within. may_begin_alone c.split.new.node c.in_ok-third.third 3 c.in_ok-third.ensures.parted.0 version (may_begin_without c.in_ok-shared.first c.split.new.node 2 c.in_ok-second.ensures.parted.1 3 version (λ e. absurd (omega arith)) (may_begin_fresh 4 800 _ c.in_ok-shared.shared c.in_ok-shared.first c.in_ok-shared.ensures.opened.0 c.in_ok-shared.ensures.opened.1 3 version (lit≤ tt) (lit≤ tt) (omega arith) (omega arith))), log_alone c.split.new.node c.in_ok-third.third 3 0 0 c.in_ok-third.ensures.parted.0 (log_without c.in_ok-shared.first c.split.new.node 2 0 0 c.in_ok-second.ensures.parted.1 3 (λ e. absurd (omega arith)) (log_fresh 4 800 _ c.in_ok-shared.shared c.in_ok-shared.first c.in_ok-shared.ensures.opened.0 c.in_ok-shared.ensures.opened.1 3 (lit≤ tt) (lit≤ tt)))),
  (λ version above within. may_begin_alone c.split-2.new.node c.in_ok-fourth.fourth 4 c.in_ok-fourth.ensures.parted.0 version (may_begin_without c.split.new.node c.split-2.new.node 3 c.in_ok-third.ensures.parted.1 4 version (λ e. absurd (omega arith)) (may_begin_without c.in_ok-shared.first c.split.new.node 2 c.in_ok-second.ensures.parted.1 4 version (λ e. absurd (omega arith)) (may_begin_fresh 4 800 _ c.in_ok-shared.shared c.in_ok-shared.first c.in_ok-shared.ensures.opened.0 c.in_ok-shared.ensures.opened.1 4 version (lit≤ tt) (lit≤ tt) (omega arith) within))), log_alone c.split-2.new.node c.in_ok-fourth.fourth 4 0 0 c.in_ok-fourth.ensures.parted.0 (log_without c.split.new.node c.split-2.new.node 3 0 0 c.in_ok-third.ensures.parted.1 4 (λ e. absurd (omega arith)) (log_without c.in_ok-shared.first c.split.new.node 2 0 0 c.in_ok-second.ensures.parted.1 4 (λ e. absurd (omega arith)) (log_fresh 4 800 _ c.in_ok-shared.shared c.in_ok-shared.first c.in_ok-shared.ensures.opened.0 c.in_ok-shared.ensures.opened.1 4 (lit≤ tt) (lit≤ tt))))),
)

pub view-newest-requires-clause-part : goal.view-newest-requires-clause-part
view-newest-requires-clause-part g c =
    let run = c.commit_by_four-low.result in
    holds_joined c.join-2.new.node run.1.1.0 c.join-3.new.node 1 c.join-3.ensures.node
    (holds_joined c.join.new.node run.1.0.0 c.join-2.new.node 1 c.join-2.ensures.node
    (holds_joined run.0.0.0 run.0.1.0 c.join.new.node 1 c.join.ensures.node c.commit_by_four-low.ensures.part))
