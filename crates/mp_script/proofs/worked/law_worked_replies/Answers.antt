-- By the tests, and each reply by its case.
use Rattle.std.proofs.Common.{refl, [], ◌∷◌, arith}
use Rattle.mp_script.specs.WorkedReplies.{conflict_after_a_wait, conflict_without_a_wait, ok_after_a_rollback, held_by_an_older, held_and_conflict, copy_of_no_row, scans_of_own_writes, full_over}
use Rattle.mp_script.proofs.Tested.{tested_legal}
use Rattle.mp_script.proofs.worked.law_worked_replies.Goals as goal

pub returns-clause-conflict_after_a_wait : goal.returns-clause-conflict_after_a_wait
returns-clause-conflict_after_a_wait c = tested_legal conflict_after_a_wait (1 ∷ 2 ∷ [])
    (record { base = refl; rows = tt; parts = refl }) (
      record { line = _; found = refl; reply = refl; follows = refl; waits = refl },
      (
        record { line = _; found = refl; reply = refl; follows = refl; waits = refl },
        (
          record { line = _; found = refl; reply = (5, refl); follows = refl; waits = (tt, tt) },
          (
            record { line = _; found = refl; reply = (refl, (5, refl)); follows = refl; waits = refl },
            (
              record { line = _; found = refl; reply = (5, refl, record { answer = _; acknowledged = refl; other = λ e. omega (arith, e); above = omega arith; written = refl }); follows = refl; waits = ((tt, tt), (record { other = λ e. omega (arith, e); younger = record { begun = refl; above = omega arith }; written = record { index = 2; its = refl; written = refl } }, tt)) },
              (record { line = _; found = refl; reply = refl; follows = refl; waits = refl }, tt),
            ),
          ),
        ),
      ),
    ) refl tt tt refl

pub returns-clause-conflict_without_a_wait : goal.returns-clause-conflict_without_a_wait
returns-clause-conflict_without_a_wait c = tested_legal conflict_without_a_wait (1 ∷ 2 ∷ [])
    (record { base = refl; rows = tt; parts = refl }) (
      record { line = _; found = refl; reply = refl; follows = refl; waits = refl },
      (
        record { line = _; found = refl; reply = refl; follows = refl; waits = refl },
        (
          record { line = _; found = refl; reply = (5, refl); follows = refl; waits = (tt, tt) },
          (
            record { line = _; found = refl; reply = (refl, (5, refl)); follows = refl; waits = refl },
            (
              record { line = _; found = refl; reply = (5, refl, record { answer = _; acknowledged = refl; other = λ e. omega (arith, e); above = omega arith; written = refl }); follows = refl; waits = (tt, tt) },
              (record { line = _; found = refl; reply = refl; follows = refl; waits = refl }, tt),
            ),
          ),
        ),
      ),
    ) refl tt tt refl

pub returns-clause-ok_after_a_rollback : goal.returns-clause-ok_after_a_rollback
returns-clause-ok_after_a_rollback c = tested_legal ok_after_a_rollback (1 ∷ 2 ∷ [])
    (record { base = refl; rows = tt; parts = refl }) (
      record { line = _; found = refl; reply = refl; follows = refl; waits = refl },
      (
        record { line = _; found = refl; reply = refl; follows = refl; waits = refl },
        (
          record { line = _; found = refl; reply = (5, refl); follows = refl; waits = (tt, tt) },
          (
            record { line = _; found = refl; reply = refl; follows = refl; waits = refl },
            (
              record { line = _; found = refl; reply = (5, refl); follows = refl; waits = ((tt, tt), (record { other = λ e. omega (arith, e); younger = record { begun = refl; above = omega arith }; written = record { index = 2; its = refl; written = refl } }, tt)) },
              (record { line = _; found = refl; reply = (refl, (5, refl)); follows = refl; waits = refl }, tt),
            ),
          ),
        ),
      ),
    ) refl tt tt refl

pub returns-clause-held_by_an_older : goal.returns-clause-held_by_an_older
returns-clause-held_by_an_older c = tested_legal held_by_an_older (1 ∷ 2 ∷ [])
    (record { base = refl; rows = tt; parts = refl }) (
      record { line = _; found = refl; reply = refl; follows = refl; waits = refl },
      (
        record { line = _; found = refl; reply = refl; follows = refl; waits = refl },
        (
          record { line = _; found = refl; reply = (1, refl); follows = refl; waits = (tt, tt) },
          (
            record { line = _; found = refl; reply = (2, refl); follows = refl; waits = (tt, tt) },
            (
              record { line = _; found = refl; reply = (1, refl, record { other = λ e. omega (arith, e); older = record { begun = refl; above = omega arith }; written = record { index = 2; its = refl; written = refl } }); follows = refl; waits = (tt, tt) },
              (
                record { line = _; found = refl; reply = (2, refl); follows = refl; waits = ((tt, tt), (record { other = λ e. omega (arith, e); younger = record { begun = refl; above = omega arith }; written = record { index = 2; its = refl; written = refl } }, tt)) },
                (
                  record { line = _; found = refl; reply = (refl, (1, refl)); follows = refl; waits = refl },
                  (record { line = _; found = refl; reply = refl; follows = refl; waits = refl }, tt),
                ),
              ),
            ),
          ),
        ),
      ),
    ) refl tt tt refl

pub returns-clause-held_and_conflict : goal.returns-clause-held_and_conflict
returns-clause-held_and_conflict c = tested_legal held_and_conflict (1 ∷ 2 ∷ 3 ∷ [])
    (record { base = refl; rows = tt; parts = refl }) (
      record { line = _; found = refl; reply = refl; follows = refl; waits = refl },
      (
        record { line = _; found = refl; reply = refl; follows = refl; waits = refl },
        (
          record { line = _; found = refl; reply = refl; follows = refl; waits = refl },
          (
            record { line = _; found = refl; reply = (1, refl); follows = refl; waits = (tt, tt) },
            (
              record { line = _; found = refl; reply = (2, refl); follows = refl; waits = (tt, tt) },
              (
                record { line = _; found = refl; reply = (3, refl); follows = refl; waits = (tt, tt) },
                (
                  record { line = _; found = refl; reply = (1, refl, record { other = λ e. omega (arith, e); older = record { begun = refl; above = omega arith }; written = record { index = 2; its = refl; written = refl } }); follows = refl; waits = (tt, tt) },
                  (
                    record { line = _; found = refl; reply = (3, refl); follows = refl; waits = ((tt, tt), (record { other = λ e. omega (arith, e); younger = record { begun = refl; above = omega arith }; written = record { index = 2; its = refl; written = refl } }, tt)) },
                    (
                      record { line = _; found = refl; reply = (refl, (2, refl)); follows = refl; waits = refl },
                      (
                        record { line = _; found = refl; reply = (2, refl, record { answer = _; acknowledged = refl; other = λ e. omega (arith, e); above = omega arith; written = refl }); follows = refl; waits = ((tt, tt), (record { other = λ e. omega (arith, e); younger = record { begun = refl; above = omega arith }; written = record { index = 2; its = refl; written = refl } }, tt)) },
                        (
                          record { line = _; found = refl; reply = refl; follows = refl; waits = refl },
                          (record { line = _; found = refl; reply = refl; follows = refl; waits = refl }, tt),
                        ),
                      ),
                    ),
                  ),
                ),
              ),
            ),
          ),
        ),
      ),
    ) refl tt tt refl

pub returns-clause-copy_of_no_row : goal.returns-clause-copy_of_no_row
returns-clause-copy_of_no_row c = tested_legal copy_of_no_row (1 ∷ [])
    (record { base = refl; rows = tt; parts = refl }) (
      record { line = _; found = refl; reply = refl; follows = refl; waits = refl },
      (
        record { line = _; found = refl; reply = (2, refl); follows = refl; waits = (tt, tt) },
        (
          record { line = _; found = refl; reply = (2, refl); follows = refl; waits = (tt, tt) },
          (
            record { line = _; found = refl; reply = (2, refl, refl); follows = refl; waits = refl },
            (record { line = _; found = refl; reply = (refl, (2, refl)); follows = refl; waits = refl }, tt),
          ),
        ),
      ),
    ) refl tt tt refl

pub returns-clause-scans_of_own_writes : goal.returns-clause-scans_of_own_writes
returns-clause-scans_of_own_writes c = tested_legal scans_of_own_writes (1 ∷ [])
    (record { base = refl; rows = tt; parts = refl }) (
      record { line = _; found = refl; reply = refl; follows = refl; waits = refl },
      (
        record { line = _; found = refl; reply = (3, refl); follows = refl; waits = (tt, tt) },
        (
          record { line = _; found = refl; reply = (1, refl); follows = refl; waits = (tt, tt) },
          (
            record { line = _; found = refl; reply = (2, refl); follows = refl; waits = (tt, tt) },
            (
              record { line = _; found = refl; reply = (2, refl); follows = refl; waits = (tt, tt) },
              (
                record { line = _; found = refl; reply = (0, 10, refl, refl); follows = refl; waits = refl },
                (
                  record { line = _; found = refl; reply = (2, 1, refl, refl); follows = refl; waits = refl },
                  (
                    record { line = _; found = refl; reply = (9, 5, refl, refl); follows = refl; waits = refl },
                    (record { line = _; found = refl; reply = (refl, (3, refl)); follows = refl; waits = refl }, tt),
                  ),
                ),
              ),
            ),
          ),
        ),
      ),
    ) refl tt tt refl

pub returns-clause-full_with_four_left : goal.returns-clause-full_with_four_left
returns-clause-full_with_four_left c = tested_legal (full_over 4092) (1 ∷ [])
    (record { base = refl; rows = tt; parts = refl }) (
      record { line = _; found = refl; reply = refl; follows = refl; waits = refl },
      (
        record { line = _; found = refl; reply = (5, refl, omega arith); follows = refl; waits = (tt, tt) },
        (record { line = _; found = refl; reply = refl; follows = refl; waits = refl }, tt),
      ),
    ) refl tt tt refl
