-- By the tests, and each reply by its case.
use Rattle.std.proofs.Common.{refl, Some, [], ◌∷◌}
use Rattle.mp_script.specs.Example.{small_script, fresh, small_transcript}
use Rattle.mp_script.specs.Execution.{execution_of}
use Rattle.mp_script.proofs.Tested.{tested_legal}
use Rattle.mp_script.proofs.examples.law_examples.Goals as goal

pub returns-clause-legal : goal.returns-clause-legal
returns-clause-legal c = tested_legal (execution_of small_script fresh (small_transcript 0 (Some (97 ∷ [])) 1 1)) (1 ∷ [])
    (record { base = refl; rows = tt; parts = refl }) (
      record { line = _; found = refl; reply = refl; follows = refl; waits = refl },
      (
        record { line = _; found = refl; reply = (7, refl); follows = refl; waits = (tt, tt) },
        (
          record { line = _; found = refl; reply = (7, refl, refl); follows = refl; waits = refl },
          (record { line = _; found = refl; reply = (refl, (7, refl)); follows = refl; waits = refl }, tt),
        ),
      ),
    ) refl tt tt refl
