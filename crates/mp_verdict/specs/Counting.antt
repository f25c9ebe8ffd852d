-- The commits of an execution are the timestamps that were drawn; and which replies show what was read.
use Rattle.std.specs.Prelude.{◌≡◌, ◌+◌}
use Rattle.mp_script.specs.Execution.{Execution}
use Rattle.mp_core.specs.World.{CoreWorld}

-- the timestamp oracle counts the commits of the execution
abbrev pub CountsCommits : CoreWorld → Execution → Type 0
CountsCommits w run = w.trx.tso ≡ run.opening.base + run.commits
