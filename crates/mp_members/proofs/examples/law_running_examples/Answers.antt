use Rattle.std.proofs.Common.{◌≡◌, ℕ, ◌++◌, true, false, List, [], ◌∷◌, map, refl, sym, ap, ◌∙◌}
use Rattle.std.specs.Prelude.{slice_get}
use Rattle.mp_book.specs.declared.session.Session.{Session}
use Rattle.mp_book.specs.Through.{have_no_task}
use Rattle.mp_script.proofs.Options.{not_some}
use Rattle.mp_primary.specs.Primaries.{PrimaryView}
use Rattle.mp_primary.specs.Answering.{have_no_line}
use Rattle.mp_members.proofs.examples.law_running_examples.Goals as goal

nothing_some : {T : Type 0} (x : T) (xs : List T) → x ∷ xs ≡ [] → ⊥
nothing_some x xs e = absurd cc

one_zero : ◌≡◌ {A = ℕ} 1 0 → ⊥
one_zero e = absurd cc

two_zero : ◌≡◌ {A = ℕ} 2 0 → ⊥
two_zero e = absurd cc

false_true : false ≡ true → ⊥
false_true e = absurd cc

pub returns-clause-idle : goal.returns-clause-idle
returns-clause-idle g c = λ m log none is. ap (λ (l : List (PrimaryView g.row.D.Denot)). map (λ (pr : PrimaryView g.row.D.Denot). pr.media.log) l ++ m.idle.items) none ∙ is

pub returns-clause-none_left_out : goal.returns-clause-none_left_out
returns-clause-none_left_out g c = λ m pr one none.
    nothing_some pr.media.log m.idle.items (sym (ap (λ (l : List (PrimaryView g.row.D.Denot)). map (λ (p : PrimaryView g.row.D.Denot). p.media.log) l ++ m.idle.items) one) ∙ none)

pub returns-clause-through : goal.returns-clause-through
returns-clause-through g c = λ m none place pr is. absurd (not_some pr (sym (ap (λ (l : List (PrimaryView g.row.D.Denot)). slice_get l place) none) ∙ is))

pub returns-clause-not_through : goal.returns-clause-not_through
returns-clause-not_through g c = λ m pr one up has through.
    false_true (sym (ap (λ (l : List Session). have_no_task l) has) ∙ (through 0 pr (ap (λ (l : List (PrimaryView g.row.D.Denot)). slice_get l 0) one)).nothing up)

pub returns-clause-down_through : goal.returns-clause-down_through
returns-clause-down_through g c = λ pr down has. record {
  answered = ap (λ (l : List Session). have_no_line l) has;
  nothing = λ up. absurd (two_zero (sym down ∙ up));
}

pub returns-clause-up_not_through : goal.returns-clause-up_not_through
returns-clause-up_not_through g c = λ pr up has through. false_true (sym (ap (λ (l : List Session). have_no_task l) has) ∙ through.nothing up)

pub returns-clause-unanswered : goal.returns-clause-unanswered
returns-clause-unanswered g c = λ pr has through. false_true (sym (ap (λ (l : List Session). have_no_line l) has) ∙ through.answered)

pub returns-clause-member : goal.returns-clause-member
returns-clause-member g c = λ m pr stands agrees told may. record { number = refl; work_is = refl; stands = stands; agrees = agrees; told = told; may_turn = may }

pub returns-clause-not_member : goal.returns-clause-not_member
returns-clause-not_member g c = λ work m given n pr q has up down is. one_zero (sym down ∙ sym (is.told q has) ∙ up)

pub returns-clause-not_in_order : goal.returns-clause-not_in_order
returns-clause-not_in_order g c = λ work m x given none runs. nothing_some x.node _ (sym runs.order ∙ none)

pub returns-clause-not_members : goal.returns-clause-not_members
returns-clause-not_members g c = λ work m given carries is. nothing_some 5 [] (sym carries ∙ is.frames)

pub returns-clause-apart : goal.returns-clause-apart
returns-clause-apart g c = λ work m is. record { members = is; views = λ n node. tt }

pub returns-clause-not_apart : goal.returns-clause-not_apart
returns-clause-not_apart g c = λ work m given carries is. nothing_some 5 [] (sym carries ∙ is.members.frames)
