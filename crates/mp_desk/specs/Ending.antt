-- How a commit stops, and what it leaves.
use Rattle.std.specs.Prelude.{ℕ, Option, Some, None, Result, Ok, Err}
use Rattle.mp_core_trx.specs.declared.part.Begun.{Begun}
use Rattle.mp_outside.specs.declared.disks.Disk.{Ghosts}
use Rattle.mp_shared.specs.Nodes.{NodeView}
use Rattle.mp_supports.specs.Work.{Work}
use Rattle.mp_desk.specs.declared.halts.CommitHalt.{CommitHalt}
use Rattle.mp_desk.specs.declared.halts.CommitHalt.TheVariants as commits
use Rattle.mp_desk.specs.declared.media.Media.{Media}
use Rattle.mp_desk.specs.Desks.{Moves}
use Rattle.mp_desk.specs.Making.{MediaAgree}
use Rattle.mp_desk.specs.Statements.{StaysQuiet}
use Rattle.mp_desk.specs.Writes.{IsInTheBalance}

-- before the commit began nothing was drawn; behind its record it is not known whether it stands
abbrev pub StopsCommit : ℕ → Begun → NodeView → NodeView → CommitHalt → Type 0
StopsCommit p trx before after commits.Failed = Moves StaysQuiet p before after
StopsCommit p trx before after (commits.Unknown cts) = Moves (IsInTheBalance trx cts) p before after

-- the timestamp that was drawn
abbrev pub stamp_of : Result ℕ CommitHalt → Option ℕ
stamp_of (Ok cts) = Some cts
stamp_of (Err commits.Failed) = None
stamp_of (Err (commits.Unknown cts)) = Some cts

-- the media agree with the part: of a primary that is up, or that went down by its own log
abbrev pub MediaAfterCommit : {D : Type 0} → Ghosts D → Work → ℕ → Media D → NodeView → Result ℕ CommitHalt → Type 0
MediaAfterCommit g work p media n (Ok cts) = MediaAgree g work 0 media p n
MediaAfterCommit g work p media n (Err halt) = MediaAgree g work p media p n
