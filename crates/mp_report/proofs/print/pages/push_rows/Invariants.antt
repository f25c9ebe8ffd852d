-- So far, the text has the first of them.
use Rattle.std.proofs.Common.{◌≡◌, ◌++◌, map, take}
use Rattle.mp_report.specs.Lines.{text_of_lines}
use Rattle.mp_report.specs.Pages.{row_words}
use Rattle.mp_report.proofs.print.pages.push_rows.Given as goal

abbrev pub invariant-loop-i : goal.invariant-loop-i
invariant-loop-i l = l.text.items ≡ l.initial.text.items ++ text_of_lines (map row_words (take l.i l.page.rows))
