use Rattle.std.proofs.Common.{◌∷◌, ◌++◌, ap, Some, arith}
use Rattle.std.proofs.lemmas.Fmt.{decimal_digit}
use Rattle.mp_script.specs.declared.statements.Stmt.TheVariants.{Put}
use Rattle.mp_generate.proofs.examples.law_generated_examples.Goals as goal

pub returns-clause-first_put : goal.returns-clause-first_put
returns-clause-first_put c = ap (λ digits. Some (record { session = 1; index = 2; stmt = Put 1017 (118 ∷ (digits ++ 45 ∷ digits)) })) (decimal_digit 1 (omega arith))
