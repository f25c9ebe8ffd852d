use Rattle.std.proofs.Common.{◌≡◌, ◌+◌, ◌-◌}
use Rattle.mp_shared.specs.Nodes.{HoldsPart}
use Rattle.mp_trx_fusion.specs.CommitLogs.{LogEndsAt}
use Rattle.mp_trials.specs.Versions.{MayBeginEach}
use Rattle.mp_trials.proofs.commits.commit_many.Given as goal

-- the versions from here on are free
abbrev pub invariant-loop-i : goal.invariant-loop-i
invariant-loop-i l = (l.node.run ≡ l.shared) × (l.node.frames ≡ l.fn.node.frames) × HoldsPart l.node l.p × MayBeginEach l.node l.p (l.after + l.i) (200 - l.i)
    × LogEndsAt l.node l.p l.mtr.llsn (l.after + 1 + l.i) × (l.mtr.node ≡ l.p) × (l.mtr.llsn ≡ l.i)
