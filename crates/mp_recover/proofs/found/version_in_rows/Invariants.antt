-- The greatest of those so far and of those behind is the greatest of all.
use Rattle.std.proofs.Common.{◌≡◌, drop}
use Rattle.mp_recover.specs.Finding.{greatest_of, row_versions}
use Rattle.mp_recover.proofs.found.version_in_rows.Given as goal

abbrev pub invariant-loop-row : goal.invariant-loop-row
invariant-loop-row l = greatest_of l.newest (row_versions (drop l.row-index l.rows)) ≡ greatest_of l.initial.newest (row_versions l.rows)
