-- By the tests, and each reply by its case.
use Rattle.std.proofs.Common.{refl, [], ◌∷◌, arith}
use Rattle.mp_script.specs.WorkedViews.{old_value_twice, unknown_is_not_read, numbers_across_parts, view_across_parts}
use Rattle.mp_script.proofs.Tested.{tested_legal}
use Rattle.mp_script.proofs.worked.law_worked_views.Goals as goal

pub returns-clause-old_value_twice : goal.returns-clause-old_value_twice
returns-clause-old_value_twice c = tested_legal old_value_twice (1 ∷ 2 ∷ [])
    (record { base = refl; rows = tt; parts = refl }) (
      record { line = _; found = refl; reply = refl; follows = refl; waits = refl },
      (
        record { line = _; found = refl; reply = (5, refl); follows = refl; waits = (tt, tt) },
        (
          record { line = _; found = refl; reply = (refl, (5, refl)); follows = refl; waits = refl },
          (
            record { line = _; found = refl; reply = refl; follows = refl; waits = refl },
            (
              record { line = _; found = refl; reply = (5, refl, refl); follows = refl; waits = refl },
              (
                record { line = _; found = refl; reply = refl; follows = refl; waits = refl },
                (
                  record { line = _; found = refl; reply = (5, refl); follows = refl; waits = (tt, tt) },
                  (
                    record { line = _; found = refl; reply = (refl, (5, refl)); follows = refl; waits = refl },
                    (
                      record { line = _; found = refl; reply = (5, refl, refl); follows = refl; waits = refl },
                      (record { line = _; found = refl; reply = (refl, λ key. refl); follows = refl; waits = refl }, tt),
                    ),
                  ),
                ),
              ),
            ),
          ),
        ),
      ),
    ) refl tt tt refl

pub returns-clause-unknown_is_not_read : goal.returns-clause-unknown_is_not_read
returns-clause-unknown_is_not_read c = tested_legal unknown_is_not_read (1 ∷ 2 ∷ [])
    (record { base = refl; rows = tt; parts = refl }) (
      record { line = _; found = refl; reply = refl; follows = refl; waits = refl },
      (
        record { line = _; found = refl; reply = (5, refl); follows = refl; waits = (tt, tt) },
        (
          record { line = _; found = refl; reply = (refl, (5, refl)); follows = refl; waits = refl },
          (
            record { line = _; found = refl; reply = refl; follows = refl; waits = refl },
            (
              record { line = _; found = refl; reply = (5, refl, refl); follows = refl; waits = refl },
              (record { line = _; found = refl; reply = (refl, λ key. refl); follows = refl; waits = refl }, tt),
            ),
          ),
        ),
      ),
    ) refl (omega arith, tt) (refl, tt) refl

pub returns-clause-numbers_across_parts : goal.returns-clause-numbers_across_parts
returns-clause-numbers_across_parts c = tested_legal numbers_across_parts (1 ∷ 2 ∷ [])
    (record { base = refl; rows = tt; parts = refl }) (
      record { line = _; found = refl; reply = refl; follows = refl; waits = refl },
      (
        record { line = _; found = refl; reply = (1, refl); follows = refl; waits = (tt, tt) },
        (
          record { line = _; found = refl; reply = (refl, (1, refl)); follows = refl; waits = refl },
          (
            record { line = _; found = refl; reply = refl; follows = refl; waits = refl },
            (
              record { line = _; found = refl; reply = (2, refl); follows = refl; waits = (tt, tt) },
              (record { line = _; found = refl; reply = (refl, (2, refl)); follows = refl; waits = refl }, tt),
            ),
          ),
        ),
      ),
    ) refl tt tt refl

pub returns-clause-view_across_parts : goal.returns-clause-view_across_parts
returns-clause-view_across_parts c = tested_legal view_across_parts (1 ∷ 2 ∷ [])
    (record { base = refl; rows = tt; parts = refl }) (
      record { line = _; found = refl; reply = refl; follows = refl; waits = refl },
      (
        record { line = _; found = refl; reply = (1, refl); follows = refl; waits = (tt, tt) },
        (
          record { line = _; found = refl; reply = (refl, (1, refl)); follows = refl; waits = refl },
          (
            record { line = _; found = refl; reply = refl; follows = refl; waits = refl },
            (
              record { line = _; found = refl; reply = (2, refl); follows = refl; waits = (tt, tt) },
              (record { line = _; found = refl; reply = (refl, (2, refl)); follows = refl; waits = refl }, tt),
            ),
          ),
        ),
      ),
    ) refl tt tt refl
