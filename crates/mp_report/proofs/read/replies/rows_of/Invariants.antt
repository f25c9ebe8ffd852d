-- So far, the words are these rows.
use Rattle.std.proofs.Common.{◌≡◌, ◌++◌, drop}
use Rattle.std.specs.Option.{option_map}
use Rattle.mp_report.specs.Shown.{texts}
use Rattle.mp_report.specs.Reading.{read_all, read_row}
use Rattle.mp_report.proofs.read.replies.rows_of.Given as goal

abbrev pub invariant-loop-word : goal.invariant-loop-word
invariant-loop-word l = option_map (λ rest. l.rows.items ++ rest) (read_all read_row (texts (drop l.word-index l.words))) ≡ read_all read_row (texts l.words)
