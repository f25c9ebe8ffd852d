-- Two records of one transaction aren't those of two.
use Rattle.std.proofs.Common.{refl}
use Rattle.mp_recover.proofs.examples.law_kept_examples.Goals as goal

pub returns-clause-twice : goal.returns-clause-twice
returns-clause-twice c = λ once. once.0.0 refl
