-- So far, the words are these transactions.
use Rattle.std.proofs.Common.{◌≡◌, ◌++◌, drop}
use Rattle.std.specs.Option.{option_map}
use Rattle.mp_report.specs.Shown.{texts}
use Rattle.mp_report.specs.Reading.{read_all, read_statement}
use Rattle.mp_report.proofs.read.replies.names_of.Given as goal

abbrev pub invariant-loop-word : goal.invariant-loop-word
invariant-loop-word l = option_map (λ rest. l.names.items ++ rest) (read_all read_statement (texts (drop l.word-index l.words))) ≡ read_all read_statement (texts l.words)
