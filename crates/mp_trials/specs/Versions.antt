-- Which transactions a trial may begin.
use Rattle.std.specs.Prelude.{ℕ, ◌+◌, ◌<◌, ◌≤◌}
use Rattle.mp_shared.specs.Nodes.{NodeView}
use Rattle.mp_trx_fusion.specs.Calls.{MayBeginTrx}
use Rattle.mp_trx_fusion.specs.CommitLogs.{LogEndsAt}

-- the primary may begin with each of so many versions that follow one another
abbrev pub MayBeginEach : NodeView → ℕ → ℕ → ℕ → Type 0
MayBeginEach n p after count = (version : ℕ) → after < version → version ≤ after + count → MayBeginTrx n p version

-- the same, and its log has no mtr yet
abbrev pub MayCommitEach : NodeView → ℕ → ℕ → ℕ → Type 0
MayCommitEach n p after count = MayBeginEach n p after count × LogEndsAt n p 0 0
