-- So far, the text has the first of them.
use Rattle.std.proofs.Common.{◌≡◌, ◌++◌, map, take}
use Rattle.mp_report.specs.Lines.{text_of_lines}
use Rattle.mp_report.specs.Rows.{present_words}
use Rattle.mp_report.proofs.print.rows.push_rows.Given as goal

abbrev pub invariant-loop-row : goal.invariant-loop-row
invariant-loop-row l = l.text.items ≡ l.initial.text.items ++ text_of_lines (map present_words (take l.row-index l.rows))
