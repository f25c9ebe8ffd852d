-- By the tests, and each reply by its case.
use Rattle.std.proofs.Common.{true, false, ◌≡◌, refl, [], ◌∷◌, arith}
use Rattle.mp_script.specs.WorkedDowns.{stopped_after_unknown, stopped_from_the_first}
use Rattle.mp_script.proofs.Tested.{tested_legal}
use Rattle.mp_script.proofs.worked.law_worked_downs.Goals as goal

pub returns-clause-stopped_after_unknown : goal.returns-clause-stopped_after_unknown
returns-clause-stopped_after_unknown c = tested_legal stopped_after_unknown (1 ∷ [])
    (record { base = refl; rows = tt; parts = refl }) (
      record { line = _; found = refl; reply = refl; follows = refl; waits = refl },
      (
        record { line = _; found = refl; reply = (1, refl); follows = refl; waits = (tt, tt) },
        (
          record { line = _; found = refl; reply = (refl, (1, refl)); follows = refl; waits = refl },
          (record { line = _; found = refl; reply = refl; follows = tt; waits = refl }, tt),
        ),
      ),
    ) refl (omega arith, tt) (refl, tt) refl

pub returns-clause-stopped_from_the_first : goal.returns-clause-stopped_from_the_first
returns-clause-stopped_from_the_first c = tested_legal stopped_from_the_first (1 ∷ [])
    (record { base = refl; rows = tt; parts = refl }) (
      record { line = _; found = refl; reply = refl; follows = tt; waits = refl },
      (
        record { line = _; found = refl; reply = refl; follows = tt; waits = (tt, tt) },
        (record { line = _; found = refl; reply = refl; follows = tt; waits = refl }, tt),
      ),
    ) refl (omega arith, tt) (refl, tt) refl

pub returns-clause-unknown_without_down : goal.returns-clause-unknown_without_down
returns-clause-unknown_without_down c = λ downs. let no : false ≡ true = downs.named.1.1.0 1 refl in cc
