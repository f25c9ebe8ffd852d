-- The definitions compute.
use Rattle.std.proofs.Common.{◌≡◌, ℕ, List, [], ◌∷◌, refl, ap, ◌∙◌, drop, get_or, arith}
use Rattle.mp_outside.proofs.laws.law_disk_examples.Goals as goal

abbrev first : List ℕ → ℕ
first file = get_or file 0 0

pub returns-clause-torn : goal.returns-clause-torn
returns-clause-torn c = record { before = refl; after = refl; no_shorter = omega arith }

pub returns-clause-torn_longer : goal.returns-clause-torn_longer
returns-clause-torn_longer c = record { before = refl; after = refl; no_shorter = omega arith }

pub returns-clause-not_torn : goal.returns-clause-not_torn
returns-clause-not_torn c = λ torn. let same : 9 ≡ 1 = ap first torn.before in absurd (omega (arith, same))

pub returns-clause-cut : goal.returns-clause-cut
returns-clause-cut c = record { no_shorter = omega arith; front = refl }

pub returns-clause-not_cut : goal.returns-clause-not_cut
returns-clause-not_cut c = λ cut. absurd (omega (arith, cut.no_shorter))

pub returns-clause-written : goal.returns-clause-written
returns-clause-written c = refl

pub returns-clause-follows : goal.returns-clause-follows
returns-clause-follows c = λ file is. (1 ∷ 2 ∷ [], refl, rw is (record { before = refl; after = refl; no_shorter = omega arith }))

pub returns-clause-not_follows : goal.returns-clause-not_follows
returns-clause-not_follows c = λ follows.
    let from = follows (1 ∷ 9 ∷ []) refl in
    let same : 9 ≡ 2 = ap first from.2.after ∙ ap (λ (file : List ℕ). first (drop 1 file)) from.1 in
    absurd (omega (arith, same))
