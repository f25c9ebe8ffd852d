-- So far, the text has the first of them.
use Rattle.std.proofs.Common.{◌≡◌, ◌++◌, map, take}
use Rattle.mp_report.specs.Lines.{text_of_lines}
use Rattle.mp_report.specs.Transcripts.{down_words}
use Rattle.mp_report.proofs.print.transcripts.push_downs.Given as goal

abbrev pub invariant-loop-down : goal.invariant-loop-down
invariant-loop-down l = l.text.items ≡ l.initial.text.items ++ text_of_lines (map down_words (take l.down-index l.downs))
