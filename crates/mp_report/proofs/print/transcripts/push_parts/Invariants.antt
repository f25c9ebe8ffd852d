-- So far, the text has the first of them.
use Rattle.std.proofs.Common.{◌≡◌, ◌++◌, take}
use Rattle.std.specs.List.{flat_map}
use Rattle.mp_report.specs.Lines.{text_of_lines}
use Rattle.mp_report.specs.Transcripts.{part_lines}
use Rattle.mp_report.proofs.print.transcripts.push_parts.Given as goal

abbrev pub invariant-loop-part : goal.invariant-loop-part
invariant-loop-part l = l.text.items ≡ l.initial.text.items ++ text_of_lines (flat_map (part_lines l.mode) (take l.part-index l.parts))
