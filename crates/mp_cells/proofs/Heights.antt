-- A tree has at most three levels: with four it would use more pages than there are.
use Rattle.std.proofs.Common.{◌≡◌, ℕ, zero, suc, ◌+◌, ◌*◌, ◌<◌, ◌≤◌, ◌==◌, cond, List, [], ◌∷◌, length, map, refl, sym, ap, subst, ◌∙◌, inl, inr, arith}
use Rattle.std.proofs.lemmas.Bool.{cases_lt}
use Rattle.std.proofs.lemmas.List.{length-append, length-map}
use Rattle.std.proofs.lemmas.Nat.Bits.{bit_at-lt}
use Rattle.mp_cells.specs.declared.kinds.Kind.{Kind}
use Rattle.mp_cells.specs.declared.kinds.Kind.TheVariants.{Leaf, Inner}
use Rattle.mp_cells.specs.declared.children.Child.{Child}
use Rattle.mp_cells.specs.PageView.{kind_number}
use Rattle.mp_cells.specs.Trees.{PageMap, top, root, Fits, below, pages_under, tree_pages, one_if, uses, IsTree, height_of, child_at}
use Rattle.mp_cells.proofs.TreeSearch.{InRange, below_in_range, goes_down, fits_parts, tree_found, root_range}
use Rattle.mp_cells.proofs.Uses.{uses-append, uses-head, AllBelow, length_most}

abbrev pub numbers : List Child → List ℕ
numbers level = map (λ child. child.page) level

-- no page of a tree is used twice
pub used_once : (pages : PageMap) (height : ℕ) → IsTree pages height → (n : ℕ) → n < 4096 → uses n (tree_pages pages height) ≤ 1
used_once pages height tree n lt = omega (arith, tree.bits n lt, bit_at-lt)

-- a level, then those under it
pub level_uses : (pages : PageMap) (height : ℕ) (level : List Child) (n : ℕ) → uses n (numbers level) ≤ uses n (pages_under pages height level)
level_uses pages zero level n = omega arith
level_uses pages (suc height) level n = omega (arith, uses-append n (numbers level) (pages_under pages height (below pages level)))

numbers_below : (level : List Child) → InRange level → AllBelow 4096 (numbers level)
numbers_below [] r = tt
numbers_below (child ∷ level) r = (r.0, numbers_below level r.1)

module _ (pages : PageMap) (height : ℕ) (tree : IsTree pages height) where
  -- a level of inner pages other than the root has many children
  many_below : (high : ℕ) (level : List Child) → InRange level → Fits pages Inner high level → uses 1 (numbers level) ≡ 0 → 62 * length level ≤ length (below pages level)
  many_below high [] r f none = omega arith
  many_below high (child ∷ level) r f none =
      let parts = uses-head 1 child.page (numbers level) none in
      let here : 62 ≤ length (pages child.page).children = tree.inner_fill child.page r.0 parts.0 f.0 in
      let rest = many_below high level r.1 f.3 parts.1 in
      omega (arith, length-append (pages child.page).children (below pages level))

  -- a level four down
  fourth : (level : List Child) → InRange level → 7688 ≤ length level → ((n : ℕ) → n < 4096 → uses n (numbers level) ≤ 1) → ⊥
  fourth level r many once = omega (arith, length_most 4096 (numbers level) (numbers_below level r) once, length-map level (λ (child : Child). child.page))

four_levels : (pages : PageMap) (h : ℕ) → IsTree pages (suc (suc (suc h))) → ⊥
four_levels pages h tree =
    let first = below pages (root ∷ []) in
    let second = below pages first in
    let third = below pages second in
    let l0 = tree.levels in
    let r1 : InRange first = below_in_range pages tree.sound top (root ∷ []) root_range l0.0 in
    let r2 : InRange second = below_in_range pages tree.sound top first r1 l0.1.0 in
    let r3 : InRange third = below_in_range pages tree.sound top second r2 l0.1.1.0 in
    let split : (n : ℕ) → uses n (tree_pages pages (suc (suc (suc h)))) ≡ one_if (1 == n) + (uses n (numbers first) + (uses n (numbers second) + uses n (pages_under pages h third))) =
    λ n. omega (arith, uses-append n (1 ∷ []) (pages_under pages (suc (suc h)) first), uses-append n (numbers first) (pages_under pages (suc h) second), uses-append n (numbers second) (pages_under pages h third)) in
    let once = used_once pages (suc (suc (suc h))) tree in
    let one = once 1 (omega arith) in
    let none1 : uses 1 (numbers first) ≡ 0 = omega (arith, split 1, one) in
    let none2 : uses 1 (numbers second) ≡ 0 = omega (arith, split 1, one) in
    let kind : (pages 1).kind ≡ Inner = l0.0.0 in
    let two : 2 ≤ length first = omega (arith, tree.root_fill kind, length-append (pages 1).children []) in
    let more2 = many_below pages (suc (suc (suc h))) tree top first r1 l0.1.0 none1 in
    let more3 = many_below pages (suc (suc (suc h))) tree top second r2 l0.1.1.0 none2 in
    fourth pages (suc (suc (suc h))) tree third r3 (omega (arith, two, more2, more3)) (λ n lt. omega (arith, once n lt, split n, level_uses pages h third n))

pub height_most : (pages : PageMap) (height : ℕ) → IsTree pages height → height ≤ 2
height_most pages zero tree = omega arith
height_most pages (suc zero) tree = omega arith
height_most pages (suc (suc zero)) tree = omega arith
height_most pages (suc (suc (suc h))) tree = absurd (four_levels pages h tree)

-- the root of a tree of three levels has a place for one more child
pub root_has_room : (pages : PageMap) → IsTree pages 2 → length (pages 1).children < 124
root_has_room pages tree = elim (cases_lt (length (pages 1).children) 124) [
  | inl lt ↦ lt
  | inr full ↦
      let first = below pages (root ∷ []) in
      let second = below pages first in
      let l0 = tree.levels in
      let r1 : InRange first = below_in_range pages tree.sound top (root ∷ []) root_range l0.0 in
      let r2 : InRange second = below_in_range pages tree.sound top first r1 l0.1.0 in
      let split : (n : ℕ) → uses n (tree_pages pages 2) ≡ one_if (1 == n) + (uses n (numbers first) + uses n (numbers second)) =
      λ n. omega (arith, uses-append n (1 ∷ []) (pages_under pages 1 first), uses-append n (numbers first) (pages_under pages 0 second)) in
      let once = used_once pages 2 tree in
      let none1 : uses 1 (numbers first) ≡ 0 = omega (arith, split 1, once 1 (omega arith)) in
      let count : length first ≡ length (pages 1).children = omega (arith, length-append (pages 1).children []) in
      let more = many_below pages 2 tree top first r1 l0.1.0 none1 in
      absurd (fourth pages 2 tree second r2 (omega (arith, full, count, more)) (λ n lt. omega (arith, once n lt, split n)))
]

abbrev height_by : Kind → Kind → ℕ
height_by first second = cond (kind_number first == 2) 0 (cond (kind_number second == 2) 1 2)

by_kind : (pages : PageMap) (first second : Kind) → (pages 1).kind ≡ first → (pages (child_at 0 (pages 1).children).page).kind ≡ second → height_of pages ≡ height_by first second
by_kind pages first second a b = ap (λ (k : Kind). height_by k (pages (child_at 0 (pages 1).children).page).kind) a ∙ ap (height_by first) b

-- a tree's height is that of its map
pub height_is : (pages : PageMap) (height : ℕ) → IsTree pages height → height ≡ height_of pages
height_is pages zero tree = sym (by_kind pages Leaf (pages (child_at 0 (pages 1).children).page).kind tree.levels.0 refl)
height_is pages (suc zero) tree = sym (by_kind pages Inner Leaf tree.levels.0.0 (tree_found pages 1 0 tree (omega arith)).kind)
height_is pages (suc (suc zero)) tree = sym (by_kind pages Inner Inner tree.levels.0.0 under)
  where
    under : (pages (child_at 0 (pages 1).children).page).kind ≡ Inner
    under =
        let at = goes_down pages tree.sound 0 top (root ∷ []) root root_range tree.levels.0 (record { before = []; behind = []; whole = refl; from = omega arith; until = omega arith }) in
        (fits_parts pages Inner top at.before (child_at 0 (pages 1).children) at.behind (subst (Fits pages Inner top) at.whole tree.levels.1.0)).kind_is
height_is pages (suc (suc (suc h))) tree = absurd (four_levels pages h tree)
