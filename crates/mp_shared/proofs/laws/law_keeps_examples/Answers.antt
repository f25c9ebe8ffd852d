use Rattle.std.proofs.Common.{◌≡◌, ℕ, zero, suc, [], ◌∷◌, Option, None, Some, refl, sym, ap, ◌∙◌, inl, arith, lit<}
use mathlib.Core.Logic.{dite}
use native.Mathlib.Decide.{ℕ_discrete}
use Rattle.mp_machine.specs.Lists.{IsIn}
use Rattle.mp_machine.specs.View.{part_in}
use Rattle.mp_cells.specs.PageView.{PageView}
use Rattle.mp_core_pages.specs.PageParts.{out_at}
use Rattle.mp_core_pages.proofs.Choices.{if_differs}
use Rattle.mp_core.specs.declared.part.CorePart.{CorePart}
use Rattle.mp_shared.specs.SmallNodes.{has_three, view_of_one}
use Rattle.mp_shared.proofs.laws.law_keeps_examples.Goals as goal

nothing : {X : Type 0} (x : X) → None ≡ Some x → ⊥
nothing x e = cc

only_three : (y : PageView) (q : CorePart) (n k : ℕ) (p : CorePart) (z : PageView) → part_in (view_of_one (has_three y q)) n ≡ Some p → out_at p.pages.frames k ≡ Some z → IsIn k (3 ∷ [])
only_three y q zero k p z has out =
    let is : has_three y q ≡ p = cc in
    dite (ℕ_discrete k 3)
    (λ same. inl same)
    (λ other. absurd (nothing z (sym (if_differs k 3 (Some y) None other) ∙ ap (λ (r : CorePart). out_at r.pages.frames k) is ∙ out)))
only_three y q (suc n) k p z has out = absurd (nothing p has)

pub returns-clause-short_table : goal.returns-clause-short_table
returns-clause-short_table c = λ held notes. nothing (held 0) (notes 0 (lit< tt))

pub returns-clause-carried : goal.returns-clause-carried
returns-clause-carried c = only_three

pub returns-clause-not_carried : goal.returns-clause-not_carried
returns-clause-not_carried c = λ y q all. all 0 3 (has_three y q) y refl refl

pub returns-clause-no_frames : goal.returns-clause-no_frames
returns-clause-no_frames c = λ n ends. let count = ends.count in omega arith
