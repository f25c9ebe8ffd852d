-- So far, the text has the first of them.
use Rattle.std.proofs.Common.{◌≡◌, ◌++◌, map, take}
use Rattle.mp_report.specs.Lines.{text_of_lines}
use Rattle.mp_report.specs.Answers.{answer_words}
use Rattle.mp_report.proofs.print.transcripts.push_answers.Given as goal

abbrev pub invariant-loop-answer : goal.invariant-loop-answer
invariant-loop-answer l = l.text.items ≡ l.initial.text.items ++ text_of_lines (map answer_words (take l.answer-index l.answers))
