use Rattle.std.proofs.Common.{◌≡◌, ℕ, List, [], ◌∷◌, length, Option, None, Some, refl, sym, ap, inl, inr, ⊎_elim, arith}
use Rattle.mp_model.specs.declared.replies.Reply.{Reply}
use Rattle.mp_model.specs.declared.replies.Reply.TheVariants.{Began}
use Rattle.mp_core_trx.specs.declared.part.Begun.{Begun}
use Rattle.mp_book.specs.declared.stage.Stage.{Stage}
use Rattle.mp_book.specs.declared.stage.Stage.TheVariants.{Closed, Open, Leaving, Skipping}
use Rattle.mp_book.specs.SmallBooks.{its_begun, row_seven}
use Rattle.mp_book.proofs.Items.{none_some}
use Rattle.mp_book.proofs.SmallBooks.{nothing_written, its_trx_stands, closed_open, leaving_skipping}
use Rattle.mp_book.proofs.examples.law_stage_examples.Goals as goal

pub returns-clause-fits : goal.returns-clause-fits
returns-clause-fits c = tt

pub returns-clause-no_put_outside : goal.returns-clause-no_put_outside
returns-clause-no_put_outside c = λ h. h

pub returns-clause-none_yet : goal.returns-clause-none_yet
returns-clause-none_yet c = refl

pub returns-clause-one_statement : goal.returns-clause-one_statement
returns-clause-one_statement c = refl

pub returns-clause-trx_stands : goal.returns-clause-trx_stands
returns-clause-trx_stands c = its_trx_stands

pub returns-clause-not_begun : goal.returns-clause-not_begun
returns-clause-not_begun c = λ h. none_some (Began 0) h.began

pub returns-clause-full_stands : goal.returns-clause-full_stands
returns-clause-full_stands c = tt

pub returns-clause-held_by_none : goal.returns-clause-held_by_none
returns-clause-held_by_none c = λ h. nothing_written (h refl)

pub returns-clause-closed : goal.returns-clause-closed
returns-clause-closed c = tt

pub returns-clause-not_closed : goal.returns-clause-not_closed
returns-clause-not_closed c = λ h. h

pub returns-clause-refusal_said : goal.returns-clause-refusal_said
returns-clause-refusal_said c = (refl, (7, refl))

pub returns-clause-another_said : goal.returns-clause-another_said
returns-clause-another_said c = λ h. h

pub returns-clause-skipping_on : goal.returns-clause-skipping_on
returns-clause-skipping_on c = refl

pub returns-clause-skipped_all : goal.returns-clause-skipped_all
returns-clause-skipped_all c = refl

pub returns-clause-is_open : goal.returns-clause-is_open
returns-clause-is_open c = (its_begun, refl)

pub returns-clause-not_open : goal.returns-clause-not_open
returns-clause-not_open c = λ h. closed_open h.0 h.1

pub returns-clause-committed : goal.returns-clause-committed
returns-clause-committed c = refl

pub returns-clause-refused : goal.returns-clause-refused
returns-clause-refused c = refl

pub returns-clause-may_write : goal.returns-clause-may_write
returns-clause-may_write c = (7, Some row_seven, (its_begun, refl), refl, (refl, refl), refl, refl, refl)

pub returns-clause-may_not_write : goal.returns-clause-may_not_write
returns-clause-may_not_write c = λ h. closed_open h.2.0 h.2.1

pub returns-clause-goes_back : goal.returns-clause-goes_back
returns-clause-goes_back c = tt

pub returns-clause-goes_on : goal.returns-clause-goes_on
returns-clause-goes_on c = λ h. h

pub returns-clause-rolled_back : goal.returns-clause-rolled_back
returns-clause-rolled_back c = inl refl

pub returns-clause-not_rolled_back : goal.returns-clause-not_rolled_back
returns-clause-not_rolled_back c = λ h. ⊎_elim (λ skipping. leaving_skipping its_begun skipping) (λ back. let wrong : 0 ≡ 1 = back.2 in absurd (omega (arith, wrong))) h
