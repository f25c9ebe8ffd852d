-- So far, the text has the first of them.
use Rattle.std.proofs.Common.{◌≡◌, ◌++◌, map, take}
use Rattle.mp_report.specs.Lines.{text_of_lines}
use Rattle.mp_report.specs.Pages.{child_words}
use Rattle.mp_report.proofs.print.records.push_child_lines.Given as goal

abbrev pub invariant-loop-child : goal.invariant-loop-child
invariant-loop-child l = l.text.items ≡ l.initial.text.items ++ text_of_lines (map child_words (take l.child-index l.children))
