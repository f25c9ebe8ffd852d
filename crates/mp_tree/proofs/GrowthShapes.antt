-- How a tree grows, as the search finds it, and what that needs of the pages.
use Rattle.mp_plans.specs.Fitting.{IsLeafOf, GrowthFits, IsParent, IsFullLeaf}
use Rattle.std.proofs.Common.{◌≡◌, ◌≢◌, ℕ, zero, suc, ◌<◌, ◌≤◌, ◌==◌, ◌||◌, nat_lt, Bool, true, false, cond, List, [], ◌∷◌, length, Some, None, refl, sym, ap, subst, ◌∙◌, inl, inr, arith}
use mathlib.Core.Bool.{false≢true}
use Rattle.std.proofs.lemmas.Bool.{cases_eq, ltb-true}
use Rattle.std.proofs.lemmas.Bool.Decides.{nat_tests}
use Rattle.mp_cells.specs.declared.kinds.Kind.TheVariants.{Leaf, Inner}
use Rattle.mp_cells.specs.declared.children.Child.{Child}
use Rattle.std.specs.List.{AllByRecursion}
use Rattle.mp_cells.specs.Children.{IsChild}
use Rattle.mp_cells.proofs.ChildSpelling.{child_page_range}
use Rattle.mp_cells.specs.PageView.{PageView, IsPage}
use Rattle.mp_cells.specs.Changes.{holds_row}
use Rattle.mp_cells.specs.Trees.{PageMap, top, root, IsTree, uses, child_from, child_at, leaf_at}
use Rattle.mp_cells.proofs.TreeSearch.{tree_found}
use Rattle.mp_plans.specs.Growth as grows
use Rattle.mp_plans.specs.Growth.{growth_of, has_place}
use Rattle.mp_cells.proofs.Uses.{one_if-same, one_if-other}
use Rattle.mp_cells.proofs.Heights.{numbers, height_most, root_has_room}
use Rattle.mp_cells.proofs.Spare.{leaf_facts, inner_facts, content_of}
use Rattle.mp_plans.proofs.Growths.{child_not_root}
use Rattle.mp_tree.specs.declared.growth.Growth.TheVariants.{Leaf as UnderParent, Inner as WithParent, Higher}
use Rattle.mp_tree.specs.declared.search.Stop.{Stop}
use Rattle.mp_tree.specs.Searches.{leaf_for, stop_on, stop_above}
use Rattle.mp_tree.specs.Planning.{shape_of, growth_under}
use Rattle.mp_tree.proofs.Descent.{begins, goes_on, inner_on_path}
use Rattle.mp_tree.proofs.PageFacts.{some_child}

-- the child that a search takes is one of the children
from_used : (key : ℕ) (child : Child) (children : List Child) → 1 ≤ uses (child_from key child children).page (numbers (child ∷ children))
from_used key child [] = omega (arith, one_if-same child.page)
from_used key child (next ∷ children) = by_test (nat_lt key next.low) (from_used key next children)
  where
    by_test : (t : Bool) → 1 ≤ uses (child_from key next children).page (numbers (next ∷ children)) → 1 ≤ uses (cond t child (child_from key next children)).page (numbers (child ∷ next ∷ children))
    by_test true h = omega (arith, one_if-same child.page)
    by_test false h = omega (arith, h)

pub child_used : (key : ℕ) (children : List Child) → 0 < length children → 1 ≤ uses (child_at key children).page (numbers children)
child_used key [] lt = absurd (omega arith)
child_used key (child ∷ children) lt = from_used key child children

child_of_inner : (key : ℕ) (page : PageView) → IsPage page → page.kind ≡ Inner → 1 ≤ uses (child_at key page.children).page (numbers page.children)
child_of_inner key page sound kind = child_used key page.children (some_child page.low page.children (inner_facts page sound kind).first)

-- a full leaf has 15 rows, and a full inner page 124 children
full_leaf : (key : ℕ) (page : PageView) → IsPage page → page.kind ≡ Leaf → has_place key page ≡ false → length page.rows ≡ 15
full_leaf key page sound kind none = by_test (holds_row key page) (nat_lt (length page.rows) 15) refl none (leaf_facts page sound kind).most
  where
    by_test : (a b : Bool) → nat_lt (length page.rows) 15 ≡ b → (a || b) ≡ false → length page.rows ≤ 15 → length page.rows ≡ 15
    by_test true b e h most = absurd (false≢true (sym h))
    by_test false true e h most = absurd (false≢true (sym h))
    by_test false false e h most = grind (arith, nat_tests, most, e)

-- ---- the shape that is found

one_level : (t : Bool) (pages : PageMap) (key : ℕ) → nat_lt (length (pages 1).children) 124 ≡ t → shape_of (growth_under (stop_on pages 0 key)) ≡ cond t (grows.leaf 1) grows.higher
one_level true pages key e = ap (λ (b : Bool). shape_of (cond b (UnderParent 1) (Higher (pages 1)))) e
one_level false pages key e = ap (λ (b : Bool). shape_of (cond b (UnderParent 1) (Higher (pages 1)))) e

under_root : (t : Bool) (stop : Stop) → stop.number ≢ 1 → nat_lt (length stop.page.children) 124 ≡ t → shape_of (growth_under stop) ≡ cond t (grows.leaf stop.number) (grows.inner stop.number)
under_root true stop apart e = ap (λ (b : Bool). shape_of (cond b (UnderParent stop.number) (cond (stop.number == 1) (Higher stop.page) (WithParent stop)))) e
under_root false stop apart e =
    let test : (stop.number == 1) ≡ false = grind (arith, nat_tests) in
    ap (λ (b : Bool). shape_of (cond b (UnderParent stop.number) (cond (stop.number == 1) (Higher stop.page) (WithParent stop)))) e ∙ ap (λ (b : Bool). shape_of (cond b (Higher stop.page) (WithParent stop))) test

-- the page below the root isn't the root
below_root : (pages : PageMap) (more key : ℕ) → IsTree pages (suc (suc more)) → (child_at key (pages 1).children).page ≢ 1
below_root pages more key tree = λ (e : (child_at key (pages 1).children).page ≡ 1).
    absurd (omega (arith, e, child_not_root (pages 1) (child_at key (pages 1).children).page (tree.sound 1 (omega arith)) tree.levels.0.0 (child_of_inner key (pages 1) (tree.sound 1 (omega arith)) tree.levels.0.0)))

pub shape_under : (pages : PageMap) (height key : ℕ) → IsTree pages (suc height) → has_place key (pages (leaf_at pages (suc height) key root).page) ≡ false → shape_of (growth_under (stop_on pages height key)) ≡ growth_of pages (suc height) key
shape_under pages zero key tree none = one_level (nat_lt (length (pages 1).children) 124) pages key refl ∙ sym (ap (λ (b : Bool). cond b grows.stays (cond (nat_lt (length (pages 1).children) 124) (grows.leaf 1) grows.higher)) none)
shape_under pages (suc zero) key tree none =
    let stop = stop_on pages 1 key in
    under_root (nat_lt (length stop.page.children) 124) stop (below_root pages 0 key tree) refl ∙ sym (ap (λ (b : Bool). cond b grows.stays (cond (nat_lt (length stop.page.children) 124) (grows.leaf stop.number) (grows.inner stop.number))) none)
shape_under pages (suc (suc more)) key tree none = absurd (omega (arith, height_most pages (suc (suc (suc more))) tree))

-- ---- what it needs of the pages

leaf_of : (pages : PageMap) (height key : ℕ) → IsTree pages height → key < top → IsLeafOf key (pages (leaf_at pages height key root).page) × ((leaf_at pages height key root).page < 4096)
leaf_of pages height key tree lt = let found = tree_found pages height key tree lt in (record { kind = found.kind; from = found.from; until = found.until }, found.range)

-- where the parent has a place, or none
under_parent : (pages : PageMap) (m p key : ℕ) (full : grows.Growth) → IsFullLeaf (pages m) → IsParent pages m p → IsPage (pages p) → (length (pages p).children ≡ 124 → GrowthFits pages key m full) → (t : Bool) → nat_lt (length (pages p).children) 124 ≡ t → GrowthFits pages key m (cond t (grows.leaf p) full)
under_parent pages m p key full leaf parent sound rest true e = (leaf, parent, ltb-true (length (pages p).children) 124 e)
under_parent pages m p key full leaf parent sound rest false e = rest (let most = (inner_facts (pages p) sound parent.kind).most in grind (arith, nat_tests, most, e))

full_fits : (pages : PageMap) (height key : ℕ) → IsTree pages height → key < top → has_place key (pages (leaf_at pages height key root).page) ≡ false → GrowthFits pages key (leaf_at pages height key root).page (growth_of pages height key)
full_fits pages zero key tree lt none =
    let leaf = leaf_of pages 0 key tree lt in
    subst (λ (b : Bool). GrowthFits pages key 1 (cond b grows.stays grows.new_root)) (sym none) (refl, full_leaf key (pages 1) (tree.sound 1 (omega arith)) leaf.0.kind none)
full_fits pages (suc zero) key tree lt none =
    let m = (leaf_at pages 1 key root).page in
    let leaf = leaf_of pages 1 key tree lt in
    let full = full_leaf key (pages m) (tree.sound m leaf.1) leaf.0.kind none in
    let parent : IsParent pages m 1 = record { range = omega arith; kind = tree.levels.0.0; has = child_of_inner key (pages 1) (tree.sound 1 (omega arith)) tree.levels.0.0 } in
    subst (λ (b : Bool). GrowthFits pages key m (cond b grows.stays (cond (nat_lt (length (pages 1).children) 124) (grows.leaf 1) grows.higher))) (sym none)
    (under_parent pages m 1 key grows.higher full parent (tree.sound 1 (omega arith)) (λ e. (full, parent, e)) (nat_lt (length (pages 1).children) 124) refl)
full_fits pages (suc (suc zero)) key tree lt none =
    let m = (leaf_at pages 2 key root).page in
    let p = (leaf_at pages 1 key root).page in
    let leaf = leaf_of pages 2 key tree lt in
    let full = full_leaf key (pages m) (tree.sound m leaf.1) leaf.0.kind none in
    let root_inner = tree.levels.0.0 in
    let reached = goes_on pages 2 key tree 0 1 (begins pages 2 key tree lt) root_inner in
    let inner : (pages p).kind ≡ Inner = inner_on_path pages 2 key 1 p reached (omega arith) in
    let above : IsParent pages p 1 = record { range = omega arith; kind = root_inner; has = child_of_inner key (pages 1) (tree.sound 1 (omega arith)) root_inner } in
    let range : p < 4096 = path_range pages key tree in
    let parent : IsParent pages m p = record { range = range; kind = inner; has = child_of_inner key (pages p) (tree.sound p range) inner } in
    subst (λ (b : Bool). GrowthFits pages key m (cond b grows.stays (cond (nat_lt (length (pages p).children) 124) (grows.leaf p) (grows.inner p)))) (sym none)
    (under_parent pages m p key (grows.inner p) full parent (tree.sound p range) (λ e. (full, parent, e, above, root_has_room pages tree)) (nat_lt (length (pages p).children) 124) refl)
  where
    path_range : (pages : PageMap) (key : ℕ) (tree : IsTree pages 2) → (leaf_at pages 1 key root).page < 4096
    path_range pages key tree = child_range (pages 1).children (content_of Inner (pages 1) (tree.sound 1 (omega arith)) tree.levels.0.0).2 (child_of_inner key (pages 1) (tree.sound 1 (omega arith)) tree.levels.0.0)
      where
        child_range : (children : List Child) → AllByRecursion IsChild children → 1 ≤ uses (child_at key (pages 1).children).page (numbers children) → (child_at key (pages 1).children).page < 4096
        child_range [] h u = absurd (omega (arith, u))
        child_range (child ∷ children) h u = elim (cases_eq child.page (child_at key (pages 1).children).page) [
          | inl same ↦ omega (arith, same, (child_page_range child.page h.0.page).1)
          | inr apart ↦ child_range children h.1 (omega (arith, u, one_if-other child.page (child_at key (pages 1).children).page apart))
        ]
full_fits pages (suc (suc (suc more))) key tree lt none = absurd (omega (arith, height_most pages (suc (suc (suc more))) tree))

pub fits_growth : (pages : PageMap) (height key : ℕ) → IsTree pages height → key < top → GrowthFits pages key (leaf_at pages height key root).page (growth_of pages height key)
fits_growth pages height key tree lt = by_place (has_place key (pages (leaf_at pages height key root).page)) refl
  where
    by_place : (t : Bool) → has_place key (pages (leaf_at pages height key root).page) ≡ t → GrowthFits pages key (leaf_at pages height key root).page (growth_of pages height key)
    by_place true e = stays_fits height tree e
      where
        stays_fits : (height : ℕ) → IsTree pages height → has_place key (pages (leaf_at pages height key root).page) ≡ true → GrowthFits pages key (leaf_at pages height key root).page (growth_of pages height key)
        stays_fits zero tree e = subst (λ (b : Bool). GrowthFits pages key 1 (cond b grows.stays grows.new_root)) (sym e) e
        stays_fits (suc zero) tree e = subst (λ (b : Bool). GrowthFits pages key (leaf_at pages 1 key root).page (cond b grows.stays (cond (nat_lt (length (pages 1).children) 124) (grows.leaf 1) grows.higher))) (sym e) e
        stays_fits (suc (suc more)) tree e = subst (λ (b : Bool). GrowthFits pages key (leaf_at pages (suc (suc more)) key root).page (cond b grows.stays (cond (nat_lt (length (pages (leaf_at pages (suc more) key root).page).children) 124) (grows.leaf (leaf_at pages (suc more) key root).page) (grows.inner (leaf_at pages (suc more) key root).page)))) (sym e) e
    by_place false e = full_fits pages height key tree lt e

-- ---- as the path shows it

pub above_shape : (pages : PageMap) (height key : ℕ) (parent : Stop) → IsTree pages height → Some parent ≡ stop_above pages height key → has_place key (leaf_for pages height key) ≡ false → shape_of (growth_under parent) ≡ growth_of pages height key
above_shape pages zero key parent tree is none = absurd cc
above_shape pages (suc h) key parent tree is none = let same : parent ≡ stop_on pages h key = cc in ap (λ (s : Stop). shape_of (growth_under s)) same ∙ shape_under pages h key tree none

pub root_shape : (pages : PageMap) (height key : ℕ) → None ≡ stop_above pages height key → has_place key (leaf_for pages height key) ≡ false → grows.new_root ≡ growth_of pages height key
root_shape pages zero key is none = sym (ap (λ (b : Bool). cond b grows.stays grows.new_root) none)
root_shape pages (suc h) key is none = absurd cc
