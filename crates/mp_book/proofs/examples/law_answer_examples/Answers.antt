use Rattle.std.proofs.Common.{◌≡◌, ℕ, List, length, refl, sym, ap, arith}
use mathlib.Core.Bool.{false≢true}
use Rattle.mp_model.specs.declared.ids.TrxName.{TrxName}
use Rattle.mp_script.specs.declared.statements.Stmt.TheVariants.{Begin}
use Rattle.mp_book.specs.SmallBooks.{stated_as}
use Rattle.mp_book.proofs.Items.{none_some, some_is}
use Rattle.mp_book.proofs.SmallBooks.{nothing_written}
use Rattle.mp_book.proofs.examples.law_answer_examples.Goals as goal

pub returns-clause-none_down : goal.returns-clause-none_down
returns-clause-none_down c = refl

pub returns-clause-one_down : goal.returns-clause-one_down
returns-clause-one_down c = λ h. false≢true (sym h)

pub returns-clause-elsewhere : goal.returns-clause-elsewhere
returns-clause-elsewhere c = λ on. absurd (false≢true on)

pub returns-clause-not_written : goal.returns-clause-not_written
returns-clause-not_written c = λ h. nothing_written (h refl)

pub returns-clause-no_waits : goal.returns-clause-no_waits
returns-clause-no_waits c = refl

pub returns-clause-no_read_waits : goal.returns-clause-no_read_waits
returns-clause-no_read_waits c = λ h. let wrong : 1 ≡ 0 = ap (λ (l : List TrxName). length l) h in absurd (omega (arith, wrong))

pub returns-clause-no_holder : goal.returns-clause-no_holder
returns-clause-no_holder c = tt

pub returns-clause-not_a_holder : goal.returns-clause-not_a_holder
returns-clause-not_a_holder c = λ h. nothing_written (h refl)

pub returns-clause-wrote_none : goal.returns-clause-wrote_none
returns-clause-wrote_none c = λ key. refl

pub returns-clause-wrote_nothing_at : goal.returns-clause-wrote_nothing_at
returns-clause-wrote_nothing_at c = λ h. false≢true h.1

pub returns-clause-placed : goal.returns-clause-placed
returns-clause-placed c = record {
  next = record { its_part = refl; next = refl };
  line = stated_as 1 Begin;
  found = refl;
  follows = refl;
  stays_down = λ down. absurd (false≢true down);
  commits = tt;
  waits = refl;
  holder = tt;
}

pub returns-clause-not_placed : goal.returns-clause-not_placed
returns-clause-not_placed c = λ h. let wrong : 2 ≡ 1 = some_is 1 2 h.next.next in absurd (omega (arith, wrong))
