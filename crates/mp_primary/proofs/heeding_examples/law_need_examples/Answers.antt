use Rattle.std.proofs.Common.{◌≡◌, refl, arith}
use mathlib.Core.Bool.{false≢true}
use Rattle.mp_core_pages.specs.declared.page_lock.Held.TheVariants.{No, Read, Write}
use Rattle.mp_primary.proofs.heeding_examples.law_need_examples.Goals as goal

pub returns-clause-a_reader : goal.returns-clause-a_reader
returns-clause-a_reader c = λ e. absurd (read_not_no e)
  where
    read_not_no : Read ≡ No → ⊥
    read_not_no e = absurd cc

pub returns-clause-no_reader : goal.returns-clause-no_reader
returns-clause-no_reader c = λ h. h refl

pub returns-clause-the_writer : goal.returns-clause-the_writer
returns-clause-the_writer c = λ e. absurd (write_not_no e)
  where
    write_not_no : Write ≡ No → ⊥
    write_not_no e = absurd cc

pub returns-clause-no_frame : goal.returns-clause-no_frame
returns-clause-no_frame c = λ at seen of h. h

pub returns-clause-its_least : goal.returns-clause-its_least
returns-clause-its_least c = refl

pub returns-clause-another_least : goal.returns-clause-another_least
returns-clause-another_least c = λ e. absurd (omega (arith, e))

pub returns-clause-its_primary : goal.returns-clause-its_primary
returns-clause-its_primary c = refl

pub returns-clause-another_primary : goal.returns-clause-another_primary
returns-clause-another_primary c = λ e. false≢true e

pub returns-clause-another : goal.returns-clause-another
returns-clause-another c = record { not_itself = λ e. absurd (omega (arith, e)); low = omega arith; high = omega arith }

pub returns-clause-not_itself : goal.returns-clause-not_itself
returns-clause-not_itself c = λ h. h.not_itself refl

pub returns-clause-no_ninth : goal.returns-clause-no_ninth
returns-clause-no_ninth c = λ h. let high = h.high in absurd (omega (arith, high))
