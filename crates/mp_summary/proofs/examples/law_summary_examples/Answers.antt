use Rattle.std.proofs.Common.{List, ℕ, ◌∷◌, [], ◌++◌, ap, ap₂, ◌∙◌, arith}
use Rattle.std.specs.Prelude.{codes}
use Rattle.std.specs.Fmt.{decimal}
use Rattle.std.proofs.lemmas.Fmt.{decimal_digit}
use Rattle.mp_summary.proofs.examples.law_summary_examples.Goals as goal

line_of : List ℕ → List ℕ → List ℕ → List ℕ
line_of number answered one = (codes "summary number " ++ number) ++ ((codes " answered " ++ answered) ++ ((codes " commits " ++ one) ++ ((codes " keys " ++ one) ++ 10 ∷ [])))

pub returns-clause-line : goal.returns-clause-line
unfolding line_of
returns-clause-line c = ap₂ (λ n a. line_of n a (decimal 1)) (decimal_digit 7 (omega arith)) (decimal_digit 4 (omega arith)) ∙ ap (line_of (55 ∷ []) (52 ∷ [])) (decimal_digit 1 (omega arith))
