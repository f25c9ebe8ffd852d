-- Tests of links, undo records when one is added, and maps that agree on a plan.
use Rattle.std.proofs.Common.{◌≡◌, ℕ, ◌==◌, ◌||◌, Bool, true, false, cond, [], ◌∷◌, Option, Some, None, refl, sym, ap, subst, ◌∙◌}
use mathlib.Core.Bool.{false≢true}
use Rattle.std.proofs.lemmas.Bool.{and_from, and_parts, eqb-true, eq-eqb}
use Rattle.mp_cells.specs.declared.rows.Link.{Link}
use Rattle.mp_cells.specs.declared.rows.Row.{Row}
use Rattle.mp_cells.specs.Trees.{PageMap}
use Rattle.mp_cells.specs.Plans.{Plan, AgreesOn, touches}
use Rattle.mp_cells.specs.Writes.{same_link, undo_at, AddsUndo}

pub same_link-equal : (a b : Link) → same_link a b ≡ true → a ≡ b
same_link-equal a b h =
    let parts = and_parts (a.page == b.page) (a.index == b.index) h in
    ap (λ (page : ℕ). record { page = page; index = a.index }) (eqb-true a.page b.page parts.0) ∙ ap (λ (index : ℕ). record { page = b.page; index = index }) (eqb-true a.index b.index parts.1)

pub same_link-itself : (a : Link) → same_link a a ≡ true
same_link-itself a = and_from _ _ (eq-eqb a.page a.page refl) (eq-eqb a.index a.index refl)

pub added_there : (old new : PageMap) (link : Link) (row : Row) → AddsUndo old new link row → undo_at new link ≡ Some row
added_there old new link row adds = adds.added link ∙ ap (λ (t : Bool). cond t (Some row) (undo_at old link)) (same_link-itself link)

pub kept_there : (old new : PageMap) (link other : Link) (row former : Row) → AddsUndo old new link row → undo_at old other ≡ Some former → undo_at new other ≡ Some former
kept_there old new link other row former adds there = adds.added other ∙ by_test (same_link other link) refl
  where
    by_test : (t : Bool) → same_link other link ≡ t → cond t (Some row) (undo_at old other) ≡ Some former
    by_test true e =
        let both : ◌≡◌ {A = Option Row} None (Some former) = sym adds.fresh ∙ ap (undo_at old) (sym (same_link-equal other link e)) ∙ there in
        absurd cc
    by_test false e = there

-- ---- maps that agree on a plan

pub agrees_where : (plan : Plan) (given pages : PageMap) → ((n : ℕ) → touches n plan ≡ true → pages n ≡ given n) → AgreesOn plan given pages
agrees_where [] given pages same = tt
agrees_where (step ∷ plan) given pages same =
    (same step.0 (ap (λ (t : Bool). t || touches step.0 plan) (eq-eqb step.0 step.0 refl)), agrees_where plan given pages (λ n h. same n (or_right (n == step.0) (touches n plan) h)))
  where
    or_right : (a b : Bool) → b ≡ true → (a || b) ≡ true
    or_right true b h = refl
    or_right false b h = h

pub agrees_there : (plan : Plan) (given pages : PageMap) (n : ℕ) → AgreesOn plan given pages → touches n plan ≡ true → pages n ≡ given n
agrees_there [] given pages n agrees h = absurd (false≢true h)
agrees_there (step ∷ plan) given pages n agrees h = by_test (n == step.0) refl (agrees_there plan given pages n agrees.1) h
  where
    by_test : (t : Bool) → (n == step.0) ≡ t → (touches n plan ≡ true → pages n ≡ given n) → (t || touches n plan) ≡ true → pages n ≡ given n
    by_test true e rest k = subst (λ (m : ℕ). pages m ≡ given m) (sym (eqb-true n step.0 e)) agrees.0
    by_test false e rest k = rest k

pub agrees_itself : (plan : Plan) (pages : PageMap) → AgreesOn plan pages pages
agrees_itself [] pages = tt
agrees_itself (step ∷ plan) pages = (refl, agrees_itself plan pages)

pub agrees_on : (plan : Plan) (a b c : PageMap) → AgreesOn plan a b → AgreesOn plan b c → AgreesOn plan a c
agrees_on [] a b c h k = tt
agrees_on (step ∷ plan) a b c h k = (k.0 ∙ h.0, agrees_on plan a b c h.1 k.1)
