-- The word is the number's text exactly where its decimal text is the word.
use Rattle.std.proofs.Common.{◌≡◌, ◌∙◌, Bool, true, false, not, Some, decimal, refl, sym, subst, arith}
use Rattle.mp_report.specs.Reading.{read_number}
use Rattle.mp_report.proofs.WordsRead.{number_read}
use Rattle.mp_report.proofs.WordsSpelled.{same_from_bytes}
use Rattle.mp_report.proofs.read.words.read_number.Goals as goal

not_false : (b : Bool) → false ≡ not b → b ≡ true
not_false true e = refl
not_false false e = let no : false ≡ true = e in cc

pub returns-clause-value : goal.returns-clause-value
returns-clause-value c =
    let number = c.in_ok-number.number in
    let same : decimal number ≡ c.args.word.now = sym c.format.ensures.text ∙ sym c.as_bytes.ensures.value ∙ same_from_bytes c.as_bytes.result.now c.args.word.now (not_false _ c.if-ne.ensures) in
    sym (subst (λ w. read_number c.args.low c.args.high w ≡ Some number) same
    (number_read c.args.low c.args.high number (omega (arith, c.if-number-low.false)) (omega (arith, c.if-high-number.false)) (omega (arith, c.if-high-number.false, c.ranges.high.fits))))
