-- So far, the text has the first of them.
use Rattle.std.proofs.Common.{◌≡◌, ◌++◌, map, take}
use Rattle.mp_report.specs.Lines.{spaced}
use Rattle.mp_report.specs.Answers.{row_word}
use Rattle.mp_report.proofs.print.answers.push_row_words.Given as goal

abbrev pub invariant-loop-row : goal.invariant-loop-row
invariant-loop-row l = l.text.items ≡ l.initial.text.items ++ spaced (map row_word (take l.row-index l.rows))
