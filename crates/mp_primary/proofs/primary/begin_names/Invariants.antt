use Rattle.std.proofs.Common.{◌≡◌, ◌++◌, drop}
use Rattle.mp_script.specs.BeginNames.{begin_names}
use Rattle.mp_primary.proofs.primary.begin_names.Given as goal

abbrev pub invariant-loop-line : goal.invariant-loop-line
invariant-loop-line l = l.names.items ++ begin_names (drop l.line-index l.lines) ≡ begin_names l.lines
