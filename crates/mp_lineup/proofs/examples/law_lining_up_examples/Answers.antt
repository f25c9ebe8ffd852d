use Rattle.std.proofs.Common.{refl, arith}
use Rattle.mp_lineup.proofs.examples.law_lining_up_examples.Goals as goal

pub returns-clause-not_twice : goal.returns-clause-not_twice
returns-clause-not_twice g c = λ work pr each.
    let first = (each 0 pr refl).number in
    let second = (each 1 pr refl).number in
    omega (arith, first, second)
