-- Changes of different pages may be reordered.
use Rattle.std.proofs.Common.{◌≡◌, ◌≢◌, ℕ, ◌==◌, cond, List, [], ◌∷◌, ◌++◌, refl, sym, ap, subst, ◌∙◌, inl, inr}
use Rattle.std.specs.List.{AllByRecursion}
use Rattle.std.proofs.lemmas.Bool.{cases_eq}
use Rattle.mp_cells.specs.declared.changes.Change.{Change}
use Rattle.mp_cells.specs.Trees.{PageMap, tree_rows}
use Rattle.mp_cells.specs.Plans.{Plan, after_plan, Meets, of_page, after_changes, MeetsAll}
use Rattle.mp_cells.specs.Writes.{undo_at, IsStep}
use Rattle.mp_cells.proofs.ByPage.{after_plan-page, Meets-pages, Meets-from_pages}
use Rattle.mp_cells.proofs.Spare.{TreeWith}
use Rattle.mp_plans.proofs.Reshaping.{Reshapes}
use Rattle.mp_plans.proofs.Pieces.{of_page-here, of_page-other}

-- each page has the same changes in the same order
abbrev pub Same : Plan → Plan → Type 0
Same p q = (n : ℕ) → of_page n p ≡ of_page n q

pub same_more : (step : ℕ × Change) (p q : Plan) → Same p q → Same (step ∷ p) (step ∷ q)
same_more step p q e n = ap (λ (xs : List Change). cond (n == step.0) (step.1 ∷ xs) xs) (e n)

pub same_then : (p q r : Plan) → Same p q → Same q r → Same p r
same_then p q r a b n = a n ∙ b n

-- a change moves over changes of other pages
pub moves : (m : ℕ) (change : Change) (over rest : Plan) → AllByRecursion (λ (step : ℕ × Change). m ≢ step.0) over → Same ((m, change) ∷ (over ++ rest)) (over ++ (m, change) ∷ rest)
moves m change [] rest apart n = refl
moves m change (step ∷ over) rest apart n = elim (cases_eq n m) [
  | inl same ↦
      let other : n ≢ step.0 = λ (e : n ≡ step.0). apart.0 (sym same ∙ e) in
      of_page-here n m change (step ∷ (over ++ rest)) same
      ∙ ap (λ (xs : List Change). change ∷ xs) (of_page-other n step.0 step.1 (over ++ rest) other)
      ∙ sym (of_page-here n m change (over ++ rest) same)
      ∙ moves m change over rest apart.1 n
      ∙ sym (of_page-other n step.0 step.1 (over ++ (m, change) ∷ rest) other)
  | inr other ↦
      of_page-other n m change (step ∷ (over ++ rest)) other
      ∙ ap (λ (xs : List Change). cond (n == step.0) (step.1 ∷ xs) xs) (sym (of_page-other n m change (over ++ rest) other) ∙ moves m change over rest apart.1 n)
]

pub same_after : (p q : Plan) (pages : PageMap) → Same p q → after_plan p pages ≡ after_plan q pages
same_after p q pages e = λ i n. (after_plan-page p pages n ∙ ap (λ (xs : List Change). after_changes xs (pages n)) (e n) ∙ sym (after_plan-page q pages n)) i

pub same_meets : (p q : Plan) (pages : PageMap) → Same p q → Meets q pages → Meets p pages
same_meets p q pages e m = Meets-from_pages p pages (λ n. subst (λ (xs : List Change). MeetsAll xs (pages n)) (sym (e n)) (Meets-pages q pages m n))

pub reshapes_same : (spare spare' : List ℕ) (p q : Plan) (pages : PageMap) (height height' : ℕ) → Same p q → AllByRecursion IsStep p → Reshapes spare spare' q pages height height' → Reshapes spare spare' p pages height height'
reshapes_same spare spare' p q pages height height' e changes r =
    let after = same_after p q pages e in
    record {
      changes = changes;
      meets = same_meets p q pages e r.meets;
      tree = subst (λ (m : PageMap). TreeWith spare' m height') (sym after) r.tree;
      rows = ap (λ (m : PageMap). tree_rows m height') after ∙ r.rows;
      undo = λ link. ap (λ (m : PageMap). undo_at m link) after ∙ r.undo link;
    }

-- two changes move over three of other pages
pub move_two : (a1 a2 b1 b2 b3 c : ℕ × Change) → AllByRecursion (λ (step : ℕ × Change). a1.0 ≢ step.0) (b1 ∷ b2 ∷ b3 ∷ []) → AllByRecursion (λ (step : ℕ × Change). a2.0 ≢ step.0) (b1 ∷ b2 ∷ b3 ∷ []) → Same (a1 ∷ a2 ∷ b1 ∷ b2 ∷ b3 ∷ c ∷ []) (b1 ∷ b2 ∷ b3 ∷ a1 ∷ a2 ∷ c ∷ [])
move_two a1 a2 b1 b2 b3 c apart1 apart2 =
    same_then (a1 ∷ a2 ∷ b1 ∷ b2 ∷ b3 ∷ c ∷ []) (a1 ∷ b1 ∷ b2 ∷ b3 ∷ a2 ∷ c ∷ []) (b1 ∷ b2 ∷ b3 ∷ a1 ∷ a2 ∷ c ∷ [])
    (same_more a1 (a2 ∷ b1 ∷ b2 ∷ b3 ∷ c ∷ []) (b1 ∷ b2 ∷ b3 ∷ a2 ∷ c ∷ []) (moves a2.0 a2.1 (b1 ∷ b2 ∷ b3 ∷ []) (c ∷ []) apart2))
    (moves a1.0 a1.1 (b1 ∷ b2 ∷ b3 ∷ []) (a2 ∷ c ∷ []) apart1)

-- and the last two change places
pub swap_last : (a1 a2 b1 b2 c d : ℕ × Change) → c.0 ≢ d.0 → Same (a1 ∷ a2 ∷ b1 ∷ b2 ∷ c ∷ d ∷ []) (a1 ∷ a2 ∷ b1 ∷ b2 ∷ d ∷ c ∷ [])
swap_last a1 a2 b1 b2 c d apart =
    same_more a1 (a2 ∷ b1 ∷ b2 ∷ c ∷ d ∷ []) (a2 ∷ b1 ∷ b2 ∷ d ∷ c ∷ [])
    (same_more a2 (b1 ∷ b2 ∷ c ∷ d ∷ []) (b1 ∷ b2 ∷ d ∷ c ∷ [])
    (same_more b1 (b2 ∷ c ∷ d ∷ []) (b2 ∷ d ∷ c ∷ [])
    (same_more b2 (c ∷ d ∷ []) (d ∷ c ∷ []) (moves c.0 c.1 (d ∷ []) [] (apart, tt)))))
