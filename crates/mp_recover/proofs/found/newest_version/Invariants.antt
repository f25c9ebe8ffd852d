-- The greatest of those so far and of those behind is the greatest of all.
use Rattle.std.proofs.Common.{◌≡◌, drop}
use Rattle.mp_recover.specs.Finding.{greatest_of, records_versions}
use Rattle.mp_recover.proofs.found.newest_version.Given as goal

abbrev pub invariant-loop-item : goal.invariant-loop-item
invariant-loop-item l = greatest_of l.newest (records_versions (drop l.item-index l.items)) ≡ greatest_of l.initial.newest (records_versions l.items)
