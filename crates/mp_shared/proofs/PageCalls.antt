-- What a node is after a change of what one primary knows of pages, and after several.
use Rattle.std.proofs.Common.{◌≡◌, ℕ, ◌+◌, List, [], ◌∷◌, Some, zero, suc, refl, sym, ap, ◌∙◌, arith}
use Rattle.mp_machine.specs.View.{View, part_in, with_part}
use Rattle.mp_machine.proofs.Views.{part_in-with_here, part_in-with_else}
use Rattle.mp_cells.specs.declared.records.Mtr.{Mtr}
use Rattle.mp_cells.specs.PageView.{PageView}
use Rattle.mp_core_trx.specs.Events.{IsNode}
use Rattle.mp_core_pages.specs.declared.part.PagesPart.{PagesPart}
use Rattle.mp_core_pages.specs.PageParts.{held_at}
use Rattle.mp_core.specs.declared.part.CorePart.{CorePart}
use Rattle.mp_shared.specs.Nodes.{NodeView, HoldsPart, changed_part}
use Rattle.mp_shared.specs.PageSteps.{held_by_part, held_in, with_pages}
use Rattle.mp_shared.proofs.Holding.{holds_the_part}

pub with_part_twice : {P : Type 0} (v : View P) (n : ℕ) (p q : P) → with_part (with_part v n p) n q ≡ with_part v n q
with_part_twice [] n p q = refl
with_part_twice (x ∷ v) zero p q = refl
with_part_twice (x ∷ v) (suc n) p q = ap (λ u. x ∷ u) (with_part_twice v n p q)

-- the part of a primary after such a change
abbrev pub pages_changed : (PagesPart PageView Mtr → PagesPart PageView Mtr) → ℕ → CorePart → CorePart
pages_changed f steps q = record q { pages = f q.pages; ops = q.ops + steps }

module _ (n : NodeView) (p : ℕ) (q : CorePart) (has : part_in n.parts p ≡ Some q) (f : PagesPart PageView Mtr → PagesPart PageView Mtr) (steps : ℕ) where
  changed_here : (with_pages n p f steps).parts ≡ with_part n.parts p (pages_changed f steps q)
  changed_here = ap (changed_part n.parts p (pages_changed f steps)) has

  pub part_after : part_in (with_pages n p f steps).parts p ≡ Some (pages_changed f steps q)
  part_after = ap (λ v. part_in v p) changed_here ∙ part_in-with_here n.parts p (pages_changed f steps q) q has

  pub part_else : (k : ℕ) → ¬ (k ≡ p) → part_in (with_pages n p f steps).parts k ≡ part_in n.parts k
  part_else k other = ap (λ v. part_in v k) changed_here ∙ part_in-with_else n.parts p k (pages_changed f steps q) other

  pub held_after : (k : ℕ) → held_in (with_pages n p f steps) p k ≡ held_at (f q.pages).locks k
  held_after k = ap (λ o. held_by_part o k) part_after

  pub holds_after : IsNode q.trx.opening p → HoldsPart (with_pages n p f steps) p
  holds_after node = holds_the_part (with_pages n p f steps) p (pages_changed f steps q) part_after node

  -- two changes are one
  pub with_pages_twice : (g : PagesPart PageView Mtr → PagesPart PageView Mtr) (more : ℕ) → with_pages (with_pages n p f steps) p g more ≡ with_pages n p (λ x. g (f x)) (steps + more)
  with_pages_twice g more =
      let once = pages_changed f steps q in
      let both : CorePart = record q { pages = g (f q.pages); ops = q.ops + (steps + more) } in
      let count : q.ops + steps + more ≡ q.ops + (steps + more) = omega arith in
      let parts : (with_pages (with_pages n p f steps) p g more).parts ≡ with_part n.parts p both =
      ap (changed_part (with_pages n p f steps).parts p (pages_changed g more)) part_after
      ∙ ap (λ v. with_part v p (pages_changed g more once)) changed_here
      ∙ with_part_twice n.parts p once (pages_changed g more once)
      ∙ (λ i. with_part n.parts p (record q { pages = g (f q.pages); ops = count i })) in
      let goal_parts : with_part n.parts p both ≡ (with_pages n p (λ x. g (f x)) (steps + more)).parts =
      sym (ap (changed_part n.parts p (pages_changed (λ x. g (f x)) (steps + more))) has) in
      λ i. record { run = n.run; parts = (parts ∙ goal_parts) i; frames = n.frames }
