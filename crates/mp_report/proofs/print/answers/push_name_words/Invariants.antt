-- So far, the text has the first of them.
use Rattle.std.proofs.Common.{◌≡◌, ◌++◌, map, take}
use Rattle.mp_report.specs.Lines.{spaced}
use Rattle.mp_report.specs.Answers.{name_word}
use Rattle.mp_report.proofs.print.answers.push_name_words.Given as goal

abbrev pub invariant-loop-name : goal.invariant-loop-name
invariant-loop-name l = l.text.items ≡ l.initial.text.items ++ spaced (map name_word (take l.name-index l.names))
