-- By the tests, and each reply by its case.
use Rattle.std.proofs.Common.{◌≡◌, ◌≤◌, ap, refl, [], ◌∷◌, arith}
use Rattle.mp_script.specs.WorkedKeys.{no_commit_of_either}
use Rattle.mp_script.proofs.Tested.{tested_legal}
use Rattle.mp_script.proofs.worked.law_worked_keys.Goals as goal

pub returns-clause-no_commit_of_either : goal.returns-clause-no_commit_of_either
returns-clause-no_commit_of_either c = tested_legal no_commit_of_either (1 ∷ 2 ∷ [])
    (record { base = refl; rows = tt; parts = refl }) (
      record { line = _; found = refl; reply = refl; follows = refl; waits = refl },
      (
        record { line = _; found = refl; reply = (5, refl); follows = refl; waits = (tt, tt) },
        (
          record { line = _; found = refl; reply = refl; follows = refl; waits = refl },
          (
            record { line = _; found = refl; reply = (5, refl); follows = refl; waits = (tt, tt) },
            (
              record { line = _; found = refl; reply = refl; follows = refl; waits = refl },
              (record { line = _; found = refl; reply = refl; follows = refl; waits = refl }, tt),
            ),
          ),
        ),
      ),
    ) refl tt tt refl

pub returns-clause-lost_update : goal.returns-clause-lost_update
returns-clause-lost_update c = λ wins. wins.1.1.1.1.1.0.1.1.1.0 5 2 1 (record { shows = refl; wrote = refl }) (record { shows = refl; wrote = refl }) (omega arith) (omega arith)

pub returns-clause-lost_update_seen : goal.returns-clause-lost_update_seen
returns-clause-lost_update_seen c = λ sees. let seen : 1 ≤ 0 = (sees.0.1.1.1.1.0 5 refl).1.1.1.0 1 (record { shows = refl; wrote = refl }) (λ e. let s : 2 ≡ 1 = ap (λ t. t.session) e in omega (arith, s)) in omega (arith, seen)

pub returns-clause-dirty_write : goal.returns-clause-dirty_write
returns-clause-dirty_write c = λ held. let same = (held.0.1.1.1.1.1.0 5 1 refl).1.1.0 refl in let s : 2 ≡ 1 = ap (λ t. t.session) same in omega (arith, s)
