-- A numeral is text, and parses to its value where that is below 2^32.
use Rattle.std.proofs.Common.{◌∙◌, sym}
use Rattle.std.proofs.lemmas.Str.{IsUtf8-from_ascii}
use Rattle.std.proofs.lemmas.Fmt.{IsAscii-from_digits}
use Rattle.mp_script.proofs.Numbers.{numerals, numeral-digits, parsed_number}
use Rattle.mp_script.proofs.words.read_number.Goals as goal

pub returns-in-Ok : goal.returns-in-Ok
returns-in-Ok c = c.ok.ensures.value ∙ parsed_number c.args.word.now c.parse.result (sym c.if-not-is_numeral.ensures) (rw c.in-Ok.ensures.cases.0 at c.parse.ensures.value.0)

pub returns-in-Err : goal.returns-in-Err
returns-in-Err c = absurd (c.in-Err.ensures.cases.0 (IsUtf8-from_ascii c.args.word.now (IsAscii-from_digits c.args.word.now (numerals.to c.args.word.now (numeral-digits c.args.word.now (sym c.if-not-is_numeral.ensures))))))
