use Rattle.std.proofs.Common.{◌≡◌, ◌+◌, ◌-◌, ◌++◌, length}
use Rattle.mp_script.specs.DownLines.{down_lines}
use Rattle.mp_members.specs.Running.{downs_of}
use Rattle.mp_lineup.proofs.downs.list_downs.Given as goal

abbrev pub invariant-loop-primary : goal.invariant-loop-primary
invariant-loop-primary g l = l.downs.items ++ down_lines (downs_of l.primaries) (l.primary-index + 1) (length l.primaries - l.primary-index) ≡ down_lines (downs_of l.primaries) 1 (length l.primaries)
