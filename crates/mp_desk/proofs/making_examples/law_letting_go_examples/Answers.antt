use Rattle.std.proofs.Common.{◌≡◌, ℕ, List, length, refl, ap, subst, inl, inr, arith}
use Rattle.std.proofs.lemmas.Bool.{false≢true}
use Rattle.mp_cells.specs.declared.records.Mtr.{Mtr}
use Rattle.mp_core_pages.specs.declared.page_lock.Held.TheVariants.{No, Read}
use Rattle.mp_core_pages.specs.declared.part.Placed.{Placed}
use Rattle.mp_core.specs.declared.part.CorePart.{CorePart}
use Rattle.mp_core.specs.CoreExtends.{durable_of}
use Rattle.mp_facts.specs.SmallParts.{active_part, put_part}
use Rattle.mp_supports.specs.Agreement.{last_made_llsn}
use Rattle.mp_supports.proofs.Extending.{core_extends_refl}
use Rattle.mp_desk.proofs.Moving.{looked_none}
use Rattle.mp_desk.proofs.SmallMaking.{only_first}
use Rattle.mp_desk.proofs.making_examples.law_letting_go_examples.Goals as goal

five_not_zero : {A : Type 0} → ◌≡◌ {A = ℕ} 5 0 → A
five_not_zero e = absurd (omega (arith, e))

one_not_zero : {A : Type 0} → ◌≡◌ {A = ℕ} 1 0 → A
one_not_zero e = absurd (omega (arith, e))

read_not_no : Read ≡ No → ⊥
read_not_no e = absurd cc

pub returns-clause-open_log : goal.returns-clause-open_log
returns-clause-open_log c = record { live = refl; node = refl; last = omega arith; fits = omega arith }

pub returns-clause-closed_log : goal.returns-clause-closed_log
returns-clause-closed_log c h = false≢true h.live

pub returns-clause-overfull_log : goal.returns-clause-overfull_log
returns-clause-overfull_log c = λ bytes more h. let fits = h.fits in omega (arith, more, fits)

pub returns-clause-all_forced : goal.returns-clause-all_forced
returns-clause-all_forced c = (refl, inl refl)

pub returns-clause-not_all_forced : goal.returns-clause-not_all_forced
returns-clause-not_all_forced c h = five_not_zero h.0

pub returns-clause-none_forced : goal.returns-clause-none_forced
returns-clause-none_forced c = inl refl

pub returns-clause-forcing_makes_none : goal.returns-clause-forcing_makes_none
returns-clause-forcing_makes_none c h = elim h [
  | inl same ↦ one_not_zero (ap (λ (q : CorePart). length q.pages.made) same)
  | inr forced ↦ one_not_zero (ap (λ (l : List (Placed Mtr)). length l) forced.made)
]

pub returns-clause-gave_none : goal.returns-clause-gave_none
returns-clause-gave_none c = record { looked = looked_none active_part; trx = refl }

pub returns-clause-giving_makes_none : goal.returns-clause-giving_makes_none
returns-clause-giving_makes_none c h = one_not_zero (ap (λ (l : List (Placed Mtr)). length l) h.looked.made)

pub returns-clause-all_durable : goal.returns-clause-all_durable
returns-clause-all_durable c run q has = subst (λ (r : CorePart). last_made_llsn r ≡ durable_of r) (only_first run active_part 1 q has) refl

pub returns-clause-not_all_durable : goal.returns-clause-not_all_durable
returns-clause-not_all_durable c run h = five_not_zero (h put_part refl)

pub returns-clause-let_go : goal.returns-clause-let_go
returns-clause-let_go c = record { extends = core_extends_refl active_part; trx = refl; made = refl; durable = refl; idle = λ page. refl }

pub returns-clause-keeps_a_lock : goal.returns-clause-keeps_a_lock
returns-clause-keeps_a_lock c h = read_not_no (h.idle 0)
