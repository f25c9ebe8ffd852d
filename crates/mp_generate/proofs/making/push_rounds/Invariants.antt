use Rattle.std.proofs.Common.{◌≡◌, ◌++◌, ◌-◌, ◌≤◌}
use Rattle.std.specs.List.{flat_map}
use Rattle.mp_script.specs.InTheirPart.{count_from}
use Rattle.mp_generate.specs.Generated.{round_lines, generated_lines}
use Rattle.mp_generate.proofs.making.push_rounds.Given as goal

abbrev pub invariant-loop-round : goal.invariant-loop-round
invariant-loop-round l = record {
  positive : 1 ≤ l.round;
  within : l.round ≤ 48;
  added : l.lines.items ++ flat_map (round_lines l.number) (count_from l.round (48 - l.round)) ≡ l.fn.lines.items ++ generated_lines l.number;
}
