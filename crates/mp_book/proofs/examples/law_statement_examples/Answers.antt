use Rattle.std.proofs.Common.{◌≡◌, ℕ, refl, arith}
use Rattle.mp_book.proofs.examples.law_statement_examples.Goals as goal

pub returns-clause-its_lines : goal.returns-clause-its_lines
returns-clause-its_lines c = refl

pub returns-clause-no_others : goal.returns-clause-no_others
returns-clause-no_others c = refl

pub returns-clause-in_order : goal.returns-clause-in_order
returns-clause-in_order c = (refl, tt, (refl, tt, (refl, tt, tt)))

pub returns-clause-not_in_order : goal.returns-clause-not_in_order
returns-clause-not_in_order c = λ h. let wrong : 2 ≡ 1 = h.0 in absurd (omega (arith, wrong))

pub returns-clause-orderly : goal.returns-clause-orderly
returns-clause-orderly c = λ session. tt

pub returns-clause-not_orderly : goal.returns-clause-not_orderly
returns-clause-not_orderly c = λ h. (h 1).1

pub returns-clause-next : goal.returns-clause-next
returns-clause-next c = refl

pub returns-clause-none_left : goal.returns-clause-none_left
returns-clause-none_left c = refl

pub returns-clause-nothing_left : goal.returns-clause-nothing_left
returns-clause-nothing_left c = refl

pub returns-clause-unprinted : goal.returns-clause-unprinted
returns-clause-unprinted c = refl

pub returns-clause-to_answer : goal.returns-clause-to_answer
returns-clause-to_answer c = refl

pub returns-clause-to_leave : goal.returns-clause-to_leave
returns-clause-to_leave c = refl

pub returns-clause-its_trx : goal.returns-clause-its_trx
returns-clause-its_trx c = refl

pub returns-clause-no_trx : goal.returns-clause-no_trx
returns-clause-no_trx c = refl

pub returns-clause-own_here : goal.returns-clause-own_here
returns-clause-own_here c = refl

pub returns-clause-none_elsewhere : goal.returns-clause-none_elsewhere
returns-clause-none_elsewhere c = refl

pub returns-clause-through : goal.returns-clause-through
returns-clause-through c = refl

pub returns-clause-not_through : goal.returns-clause-not_through
returns-clause-not_through c = refl
