use Rattle.std.proofs.Common.{[], ◌∷◌, refl, sym, ap, ◌∙◌, inl, inr}
use Rattle.mp_core_trx.specs.Parts.{begun_of}
use Rattle.mp_book.specs.declared.session.Session.{Session}
use Rattle.mp_book.specs.SmallBooks.{its_begun}
use Rattle.mp_supports.specs.SmallParts.{own_trx, own_name, open_session}
use Rattle.mp_script.proofs.Options.{not_some}
use Rattle.mp_primary.proofs.OpenSessions.{waits_ended}
use Rattle.mp_primary.proofs.SmallPrimaries.{not_false, one_is_none, something_is_none}
use Rattle.mp_primary.proofs.laws.law_primary_examples.Goals as goal

pub returns-clause-down : goal.returns-clause-down
returns-clause-down g c = λ pr by some h. record { book = h.book; names = h.names; places = h.places; own = h.own; up = λ zero. absurd (some zero) }

pub returns-clause-declared_elsewhere : goal.returns-clause-declared_elsewhere
returns-clause-declared_elsewhere g c = λ pr none one h. one_is_none (record { session = 1; primary = 1 }) [] (sym one ∙ sym h.places ∙ none)

pub returns-clause-none_open : goal.returns-clause-none_open
returns-clause-none_open g c = λ b there opened. absurd there

pub returns-clause-open_alone : goal.returns-clause-open_alone
returns-clause-open_alone g c = λ h. absurd (h (begun_of own_trx 3) (inl refl) ((3, inl refl), inl refl)).1

pub returns-clause-no_waits : goal.returns-clause-no_waits
returns-clause-no_waits g c = λ work q s there. elim there [
  | inl is ↦ waits_ended work q s (ap (λ (v : Session). v.waits.items) is)
  | inr none ↦ absurd none
]

pub returns-clause-commit_waits : goal.returns-clause-commit_waits
returns-clause-commit_waits g c = λ work q h. one_is_none own_name [] (h (record open_session { waits = record { items = own_name ∷ []; spare = 0 } }) (inl refl))

pub returns-clause-began_none : goal.returns-clause-began_none
returns-clause-began_none g c = λ none. refl

pub returns-clause-began_silently : goal.returns-clause-began_silently
returns-clause-began_silently g c = λ h. something_is_none its_begun (h refl)

pub returns-clause-first_log : goal.returns-clause-first_log
returns-clause-first_log g c = λ work p log opened nothing silent. record { takes = opened; nothing = nothing; stands = λ tells. absurd (not_false (sym tells ∙ silent)) }

pub returns-clause-not_first : goal.returns-clause-not_first
returns-clause-not_first g c = λ work p log one h. one_is_none 1 [] (sym one ∙ h.nothing)

pub returns-clause-agrees_nowhere : goal.returns-clause-agrees_nowhere
returns-clause-agrees_nowhere g c = λ pr entries n none q has. absurd (not_some q (sym none ∙ has))

pub returns-clause-not_kept : goal.returns-clause-not_kept
returns-clause-not_kept g c = λ pr q a one h. one_is_none a [] (sym one ∙ sym h.answers)

pub returns-clause-no_part : goal.returns-clause-no_part
returns-clause-no_part g c = λ run pr n none h. h.desk.part.0 none
