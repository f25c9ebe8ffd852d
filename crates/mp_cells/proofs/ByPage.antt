-- A plan's effect on a page is the fold of that page's own changes.
use Rattle.std.proofs.Common.{◌≡◌, ◌≢◌, ℕ, ◌==◌, Bool, true, false, cond, [], ◌∷◌, refl, sym, ap, subst, ◌∙◌, inl, inr, arith}
use Rattle.std.proofs.lemmas.Bool.{cases_eq, eq-eqb}
use Rattle.std.proofs.lemmas.Bool.Decides.{nat_tests}
use Rattle.mp_cells.specs.PageView.{PageView}
use Rattle.mp_cells.specs.Trees.{PageMap}
use Rattle.mp_cells.specs.Plans.{Plan, CanApply, changed_page, with_page, after_change, after_plan, Meets, of_page, after_changes, MeetsAll}

-- a page at its own number, and at another one
pub with_page-here : (pages : PageMap) (number : ℕ) (page : PageView) → with_page pages number page number ≡ page
with_page-here pages number page = ap (λ (b : Bool). cond b page (pages number)) (eq-eqb number number refl)

pub with_page-other : (pages : PageMap) (number : ℕ) (page : PageView) (n : ℕ) → n ≢ number → with_page pages number page n ≡ pages n
with_page-other pages number page n other = let test : (n == number) ≡ false = grind (arith, nat_tests) in ap (λ (b : Bool). cond b page (pages n)) test

pub after_plan-page : (plan : Plan) (pages : PageMap) (n : ℕ) → after_plan plan pages n ≡ after_changes (of_page n plan) (pages n)
after_plan-page [] pages n = refl
after_plan-page (step ∷ plan) pages n = elim (cases_eq n step.0) [
  | inl same ↦
      let test : (n == step.0) ≡ true = eq-eqb n step.0 same in
      after_plan-page plan (after_change step pages) n
      ∙ ap (after_changes (of_page n plan)) (ap (with_page pages step.0 (changed_page step.1 (pages step.0))) same ∙ with_page-here pages step.0 (changed_page step.1 (pages step.0)) ∙ ap (λ (m : ℕ). changed_page step.1 (pages m)) (sym same))
      ∙ ap (λ (b : Bool). after_changes (cond b (step.1 ∷ of_page n plan) (of_page n plan)) (pages n)) (sym test)
  | inr other ↦
      let test : (n == step.0) ≡ false = grind (arith, nat_tests) in
      after_plan-page plan (after_change step pages) n
      ∙ ap (after_changes (of_page n plan)) (with_page-other pages step.0 (changed_page step.1 (pages step.0)) n other)
      ∙ ap (λ (b : Bool). after_changes (cond b (step.1 ∷ of_page n plan) (of_page n plan)) (pages n)) (sym test)
]

pub Meets-pages : (plan : Plan) (pages : PageMap) → Meets plan pages → (n : ℕ) → MeetsAll (of_page n plan) (pages n)
Meets-pages [] pages m n = tt
Meets-pages (step ∷ plan) pages m n = elim (cases_eq n step.0) [
  | inl same ↦
      let test : (n == step.0) ≡ true = eq-eqb n step.0 same in
      let rest : MeetsAll (of_page n plan) (changed_page step.1 (pages n)) = subst (MeetsAll (of_page n plan)) (ap (with_page pages step.0 (changed_page step.1 (pages step.0))) same ∙ with_page-here pages step.0 (changed_page step.1 (pages step.0)) ∙ ap (λ (k : ℕ). changed_page step.1 (pages k)) (sym same)) (Meets-pages plan (after_change step pages) m.1 n) in
      let here : CanApply step.1 (pages n) = subst (λ (k : ℕ). CanApply step.1 (pages k)) (sym same) m.0 in
      subst (λ (b : Bool). MeetsAll (cond b (step.1 ∷ of_page n plan) (of_page n plan)) (pages n)) (sym test) (here, rest)
  | inr other ↦
      let test : (n == step.0) ≡ false = grind (arith, nat_tests) in
      let rest : MeetsAll (of_page n plan) (pages n) = subst (MeetsAll (of_page n plan)) (with_page-other pages step.0 (changed_page step.1 (pages step.0)) n other) (Meets-pages plan (after_change step pages) m.1 n) in
      subst (λ (b : Bool). MeetsAll (cond b (step.1 ∷ of_page n plan) (of_page n plan)) (pages n)) (sym test) rest
]

pub Meets-from_pages : (plan : Plan) (pages : PageMap) → ((n : ℕ) → MeetsAll (of_page n plan) (pages n)) → Meets plan pages
Meets-from_pages [] pages m = tt
Meets-from_pages (step ∷ plan) pages m =
    let all : (n : ℕ) → (b : Bool) → (n == step.0) ≡ b → MeetsAll (cond b (step.1 ∷ of_page n plan) (of_page n plan)) (pages n) = λ n b e. subst (λ (c : Bool). MeetsAll (cond c (step.1 ∷ of_page n plan) (of_page n plan)) (pages n)) e (m n) in
    let here = all step.0 true (eq-eqb step.0 step.0 refl) in (
      here.0,
      Meets-from_pages plan (after_change step pages) (λ n. elim (cases_eq n step.0) [
        | inl same ↦
            let found = all n true (eq-eqb n step.0 same) in
            subst (MeetsAll (of_page n plan)) (sym (ap (with_page pages step.0 (changed_page step.1 (pages step.0))) same ∙ with_page-here pages step.0 (changed_page step.1 (pages step.0)) ∙ ap (λ (k : ℕ). changed_page step.1 (pages k)) (sym same))) found.1
        | inr other ↦
            let test : (n == step.0) ≡ false = grind (arith, nat_tests) in
            subst (MeetsAll (of_page n plan)) (sym (with_page-other pages step.0 (changed_page step.1 (pages step.0)) n other)) (all n false test)
      ]),
    )
