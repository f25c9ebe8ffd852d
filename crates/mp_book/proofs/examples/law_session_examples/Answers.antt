use Rattle.std.proofs.Common.{◌≡◌, ℕ, List, length, refl, ap, lit≤, arith}
use Rattle.mp_cells.specs.declared.rows.Row.{Row}
use Rattle.mp_book.proofs.SmallBooks.{its_trx_stands, only_first}
use Rattle.mp_book.proofs.examples.law_session_examples.Goals as goal

pub returns-clause-starts : goal.returns-clause-starts
returns-clause-starts c = record { number_is = refl; lines_are = refl; next = refl; stage = refl; formers = refl; restored = refl; waits = refl }

pub returns-clause-not_a_start : goal.returns-clause-not_a_start
returns-clause-not_a_start c = λ h. let wrong : 1 ≡ 0 = h.next in absurd (omega (arith, wrong))

pub returns-clause-same : goal.returns-clause-same
returns-clause-same c = record { rest = refl; formers = refl; waits = refl }

pub returns-clause-not_same : goal.returns-clause-not_same
returns-clause-not_same c = λ h. let wrong : 1 ≡ 0 = ap (λ (l : List Row). length l) h.formers in absurd (omega (arith, wrong))

pub returns-clause-goes_on : goal.returns-clause-goes_on
returns-clause-goes_on c = record { number = refl; lines = refl; next = refl; stage_is = refl; formers_are = refl; restored_is = refl; waits = refl; tried = refl }

pub returns-clause-stands_still : goal.returns-clause-stands_still
returns-clause-stands_still c = λ h. let wrong : 1 ≡ 2 = h.next in absurd (omega (arith, wrong))

pub returns-clause-stands : goal.returns-clause-stands
returns-clause-stands c = record { number_is = refl; lines_are = refl; next = refl; within = lit≤ tt; unanswered = only_first; restored = lit≤ tt; waits = (tt, tt); stage = λ calm. (its_trx_stands, refl) }

pub returns-clause-stands_behind : goal.returns-clause-stands_behind
returns-clause-stands_behind c = λ h. let wrong : 1 ≡ 0 = h.next in absurd (omega (arith, wrong))
