use Rattle.std.proofs.Common.{◌≡◌, ◌+◌, ◌≤◌, length, drop}
use Rattle.mp_script.specs.BeginNames.{begin_names}
use Rattle.mp_lineup.proofs.begins.count_begins.Given as goal

abbrev pub invariant-loop-line : goal.invariant-loop-line
invariant-loop-line l = record {
  so_far : l.count + length (begin_names (drop l.line-index l.lines)) ≡ length (begin_names l.lines);
  few : l.count ≤ l.line-index;
}
