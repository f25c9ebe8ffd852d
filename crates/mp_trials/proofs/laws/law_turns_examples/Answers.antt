use Rattle.std.proofs.Common.{◌≡◌, ℕ, ◌≤◌, max, Some, None, refl, sym, ap, ◌∙◌, arith}
use mathlib.Core.Logic.{dite}
use native.Mathlib.Decide.{ℕ_discrete}
use Rattle.mp_cells.specs.PageView.{PageView, blank_page}
use Rattle.mp_core_pages.proofs.Choices.{if_equal, if_differs}
use Rattle.mp_trials.proofs.laws.law_turns_examples.Goals as goal

one_page : (a b : PageView) → Some a ≡ Some b → a ≡ b
one_page a b e = cc

no_page : (b : PageView) → None ≡ Some b → ⊥
no_page b e = cc

pub returns-clause-given : goal.returns-clause-given
returns-clause-given c = record {
  ends = refl;
  durable = refl;
  own = λ k. omega arith;
  home = λ k. refl;
  told = λ k y is.
      dite (ℕ_discrete k 1)
      (λ same.
      let five : 5 ≡ y.llsn = ap (λ (z : PageView). z.llsn) (one_page (blank_page 5) y (sym (if_equal k 1 (Some (blank_page 5)) None same) ∙ is)) in
      omega (arith, five))
      (λ other. absurd (no_page y (sym (if_differs k 1 (Some (blank_page 5)) None other) ∙ is)));
}

pub returns-clause-above : goal.returns-clause-above
returns-clause-above c = λ forced. let most : 5 ≤ max 0 0 = forced.told 1 (blank_page 5) refl in absurd (omega (arith, most))

pub returns-clause-not_durable : goal.returns-clause-not_durable
returns-clause-not_durable c = λ forced. let none : 0 ≡ 5 = forced.durable in absurd (omega (arith, none))
