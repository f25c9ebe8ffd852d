-- The rows so far with the commits that are left give the rows of all; the keys go on ascending.
use Rattle.std.proofs.Common.{◌≡◌, drop}
use Rattle.mp_model.specs.Folded.{KeysAscend, before}
use Rattle.mp_model.proofs.histories.rows_at.Given as goal

abbrev pub invariant-loop-commit : goal.invariant-loop-commit
invariant-loop-commit l = record { ascend : KeysAscend l.rows.items; rest : before l.rows.items (drop l.commit-index l.commit-items) l.view ≡ before l.fn.history.opening.items l.fn.history.commits.items l.view }
