-- The text so far with the statements from here on has all.
use Rattle.std.proofs.Common.{◌≡◌, ◌++◌, map, drop}
use Rattle.mp_script.specs.Text.{line_text, lines_text}
use Rattle.mp_script.proofs.printing.push_lines.Given as goal

abbrev pub invariant-loop-line : goal.invariant-loop-line
invariant-loop-line l = l.text.items ++ lines_text (map line_text (drop l.line-index l.lines)) ≡ l.initial.text.items ++ lines_text (map line_text l.lines)
