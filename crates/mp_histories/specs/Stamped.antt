-- The order of writers, where commits and draws are lists of stamps and versions are those of a history.
use Rattle.std.specs.Prelude.{ℕ, List, Option}
use Rattle.mp_model.specs.declared.ids.TrxId.{TrxId}
use Rattle.mp_histories.specs.KeyOps.{KeyOp, live, kept_version}
use Rattle.mp_histories.specs.Commits.{Stamp, HasStamp, Includes, DrawsAbove, AreStamps, PutsFit, StandsFor}
use Rattle.mp_histories.specs.Histories.{Version, by_version}
use Rattle.mp_cells.specs.declared.rows.Row.{Row}

-- each put comes over nothing or over what it may cover
abbrev pub OpsFit : List Stamp → List Stamp → List (KeyOp Version) → Type 0
OpsFit committed drew ops = PutsFit by_version (HasStamp committed) (HasStamp drew) ops

-- commits draw, and each writer draws one timestamp
abbrev pub AreDrawn : List Stamp → List Stamp → Type 0
AreDrawn committed drew = AreStamps (HasStamp committed) (HasStamp drew)

-- all stamps of the one are among the other's
abbrev pub AreAmong : List Stamp → List Stamp → Type 0
AreAmong stamps more = Includes (HasStamp stamps) (HasStamp more)

-- a writer has none
abbrev pub HasNoStamp : List Stamp → Option TrxId → Type 0
HasNoStamp stamps writer = (cts : ℕ) → HasStamp stamps writer cts → ⊥

-- each new draw is above all commits
abbrev pub AreDrawnAbove : List Stamp → List Stamp → List Stamp → Type 0
AreDrawnAbove committed old new = DrawsAbove (HasStamp committed) (HasStamp old) (HasStamp new)

-- the versions that stand after operations stand for commits, above a last row
abbrev pub OpsStandFor : List Stamp → Row → List (KeyOp Version) → Type 0
OpsStandFor listed last ops = StandsFor by_version (HasStamp listed) (λ writer. kept_version by_version writer ops) last (live by_version ops)
