-- A map whose pages pass their tests is clean.
use Rattle.std.proofs.Common.{◌≡◌, ◌≢◌, ℕ, zero, suc, ◌+◌, ◌-◌, ◌<◌, ◌≤◌, ◌==◌, false, List, [], ◌∷◌, length, refl, sym, ap, subst, ◌∙◌, inl, inr, ◌⊎◌, arith}
use mathlib.Core.Bool.{false≢true}
use Rattle.std.specs.List.{AllByRecursion}
use Rattle.std.proofs.lemmas.Bool.{cases_eq, eqb-true, leb-true}
use Rattle.mp_cells.specs.declared.kinds.Kind.{Kind}
use Rattle.mp_cells.specs.declared.kinds.Kind.TheVariants.{Blank, Meta, Leaf, Inner, Undo}
use Rattle.mp_cells.specs.declared.children.Child.{Child}
use Rattle.mp_cells.specs.PageView.{IsPage, kind_number, is_of, bit_of}
use Rattle.mp_cells.specs.Trees.{PageMap, top, root, Fits, below, Levels, leaves, pages_under, tree_pages, child_at, leaf_at, one_if, uses, height_of, IsTree, IsClean}
use Rattle.mp_cells.proofs.Heights.{numbers}
use Rattle.mp_cells.proofs.Places.{not_in_level, leaf_uses, leaves_fit, leaves_in_range}
use Rattle.mp_cells.proofs.Spare.{content_of, not_undo, kind_apart}
use Rattle.mp_cells.proofs.TreeSearch.{InRange, below_in_range, goes_down, root_range}
use Rattle.mp_cells.proofs.Uses.{uses-append, one_if-other}
use Rattle.mp_clean.specs.CleanPages.{kind_above}
use Rattle.mp_clean.proofs.Levels.{ChildrenFit, fits_below}
use Rattle.mp_clean.proofs.Used.{fence_range, used_most, at_used, at_leaf, at_root, not_under, NotRoot, children_apart, apart_unused}
use Rattle.mp_clean.proofs.PageTests.{Fenced, unwritten, rows_enough, children_enough, bit_set, bit_clear, PageTests, placed_as, reached, LeafTests, leaf_tests, InnerTests, inner_tests, under_other}

pub record PagesTested (base height : ℕ) (pages : PageMap) : Type 0 where
  pub sound : (n : ℕ) → n < 4096 → IsPage (pages n)
  pub small : height ≤ 2
  pub meta : (pages 0).kind ≡ Meta
  pub first : Fenced pages (kind_above height) top root
  pub each : (n : ℕ) → n < 4096 → PageTests base height pages n

leaf_of : (base height : ℕ) (pages : PageMap) → PagesTested base height pages → (n : ℕ) → n < 4096 → (pages n).kind ≡ Leaf → LeafTests height pages n
leaf_of base height pages h n lt e = leaf_tests height pages n (placed_as height pages n Leaf e (h.each n lt).place)

inner_of : (base height : ℕ) (pages : PageMap) → PagesTested base height pages → (n : ℕ) → n < 4096 → (pages n).kind ≡ Inner → InnerTests (height - 1) pages n
inner_of base height pages h n lt e = inner_tests (height - 1) pages n (placed_as height pages n Inner e (h.each n lt).place)

-- ---- levels

-- the root's children
level_apart : (base height : ℕ) (pages : PageMap) → PagesTested base height pages → (pages 1).kind ≡ Inner → AllByRecursion NotRoot (below pages (root ∷ []))
level_apart base height pages h e = children_apart (pages 1).children [] (content_of Inner (pages 1) (h.sound 1 (omega arith)) e).2 tt

-- those of the inner pages besides the root are leaves
lowest_fit : (base height : ℕ) (pages : PageMap) → PagesTested base height pages → (high : ℕ) (level : List Child) → InRange level → AllByRecursion NotRoot level → Fits pages Inner high level
    → AllByRecursion (λ child. ChildrenFit pages Leaf child.page) level
lowest_fit base height pages h high [] r apart f = tt
lowest_fit base height pages h high (child ∷ level) r apart f = (
  subst (λ (kind : Kind). ChildrenFit pages kind child.page) (under_other (height - 1) child.page apart.0) (inner_of base height pages h child.page r.0 f.0).children,
  lowest_fit base height pages h high level r.1 apart.1 f.3,
)

root_fits : (base height : ℕ) (pages : PageMap) → PagesTested base height pages → Fits pages (kind_above height) top (root ∷ [])
root_fits base height pages h = (h.first.kind_is, h.first.low_is, h.first.high_is, tt)

levels : (base height : ℕ) (pages : PageMap) → PagesTested base height pages → Levels pages height (root ∷ [])
levels base zero pages h = root_fits base 0 pages h
levels base (suc zero) pages h =
    let top_fits = root_fits base 1 pages h in
    (top_fits, fits_below pages h.sound Leaf top (root ∷ []) root_range top_fits ((inner_of base 1 pages h 1 (omega arith) top_fits.0).children, tt))
levels base (suc (suc zero)) pages h =
    let top_fits = root_fits base 2 pages h in
    let next_fits : Fits pages Inner top (below pages (root ∷ [])) = fits_below pages h.sound Inner top (root ∷ []) root_range top_fits ((inner_of base 2 pages h 1 (omega arith) top_fits.0).children, tt) in
    let range = below_in_range pages h.sound top (root ∷ []) root_range top_fits in
    (top_fits, (next_fits, fits_below pages h.sound Leaf top (below pages (root ∷ [])) range next_fits (lowest_fit base 2 pages h top (below pages (root ∷ [])) range (level_apart base 2 pages h top_fits.0) next_fits)))
levels base (suc (suc (suc height))) pages h = absurd (omega (arith, h.small))

-- ---- pages of the tree

low_below : (base height : ℕ) (pages : PageMap) → PagesTested base height pages → (n above : ℕ) → n < 4096 → (pages n).kind ≡ kind_above above → (pages n).low < top
low_below base height pages h n above lt e = let range = fence_range above (pages n) (h.sound n lt) e in omega (arith, range.0, range.1)

leaf_used : (base height : ℕ) (pages : PageMap) → PagesTested base height pages → (n : ℕ) → n < 4096 → (pages n).kind ≡ Leaf → uses n (tree_pages pages height) ≡ 1
leaf_used base height pages h n lt e =
    let l = levels base height pages h in
    let all = leaves pages height (root ∷ []) in
    let most = used_most pages h.sound 0 top n all (leaves_in_range pages h.sound height (root ∷ []) root_range l) (leaves_fit pages height (root ∷ []) l) in
    omega (arith, leaf_uses pages height n (root ∷ []) l e, most, some height h l (reached pages height n (leaf_of base height pages h n lt e).place))
  where
    found : (height : ℕ) → PagesTested base height pages → Levels pages height (root ∷ []) → (leaf_at pages height (pages n).low root).page ≡ n → 1 ≤ uses n (numbers (leaves pages height (root ∷ [])))
    found height h l at =
        let key = (pages n).low in
        at_used key top n (leaves pages height (root ∷ [])) (leaf_at pages height key root) (at_leaf pages h.sound key height (root ∷ []) root root_range l (at_root key (low_below base height pages h n 0 lt e))) at

    some : (height : ℕ) → PagesTested base height pages → Levels pages height (root ∷ []) → (n ≡ 1) ⊎ ((leaf_at pages height (pages n).low root).page ≡ n) → 1 ≤ uses n (numbers (leaves pages height (root ∷ [])))
    some height h l (inr at) = found height h l at
    some zero h l (inl one) = found 0 h l (sym one)
    some (suc height) h l (inl one) =
        let kind : (pages 1).kind ≡ Leaf = ap (λ (m : ℕ). (pages m).kind) (sym one) ∙ e in
        let both : Leaf ≡ Inner = sym kind ∙ h.first.kind_is in
        absurd cc

inner_used : (base height : ℕ) (pages : PageMap) → PagesTested base height pages → (n : ℕ) → n < 4096 → (pages n).kind ≡ Inner → uses n (tree_pages pages height) ≡ 1
inner_used base height pages h n lt e = by_height height h (levels base height pages h)
  where
    not_leaf : (pages n).kind ≢ Leaf
    not_leaf = λ (leaf : (pages n).kind ≡ Leaf). let both : Leaf ≡ Inner = sym leaf ∙ e in absurd cc

    one : (m : ℕ) → (m ≡ 1) ⊎ (1 ≡ m) → m ≡ 1
    one m (inl same) = same
    one m (inr same) = sym same

    some : PagesTested base 2 pages → Levels pages 2 (root ∷ []) → n ≢ 1 → (n ≡ 1) ⊎ ((leaf_at pages 1 (pages n).low root).page ≡ n) → 1 ≤ uses n (numbers (below pages (root ∷ [])))
    some h l other (inl same) = absurd (other same)
    some h l other (inr at) =
        let key = (pages n).low in
        at_used key top n (below pages (root ∷ [])) (child_at key (pages 1).children) (goes_down pages h.sound key top (root ∷ []) root root_range l.0 (at_root key (low_below base 2 pages h n 1 lt e))) at

    by_height : (height : ℕ) → PagesTested base height pages → Levels pages height (root ∷ []) → uses n (tree_pages pages height) ≡ 1
    by_height zero h l =
        let same = one n (reached pages 0 n (inner_of base 0 pages h n lt e).place) in
        absurd (not_leaf (ap (λ (m : ℕ). (pages m).kind) same ∙ l.0))
    by_height (suc zero) h l =
        let same = one n (reached pages 0 n (inner_of base 1 pages h n lt e).place) in
        let none = not_in_level pages Leaf top n (below pages (root ∷ [])) l.1 not_leaf in
        omega (arith, uses-append n (1 ∷ []) (numbers (below pages (root ∷ []))), none, ap (λ (m : ℕ). one_if (1 == m)) same)
    by_height (suc (suc zero)) h l =
        let level = below pages (root ∷ []) in
        let lowest = below pages level in
        let none = not_in_level pages Leaf top n lowest l.1.1 not_leaf in
        let split : uses n (tree_pages pages 2) ≡ one_if (1 == n) + (uses n (numbers level) + uses n (numbers lowest)) = omega (arith, uses-append n (1 ∷ []) (pages_under pages 1 level), uses-append n (numbers level) (numbers lowest)) in
        elim (cases_eq n 1) [
          | inl same ↦
              let apart = apart_unused level (level_apart base 2 pages h l.0.0) in
              omega (arith, split, none, ap (λ (m : ℕ). one_if (1 == m)) same, ap (λ (m : ℕ). uses m (numbers level)) same, apart)
          | inr other ↦
              let most = used_most pages h.sound 1 top n level (below_in_range pages h.sound top (root ∷ []) root_range l.0) l.1.0 in
              omega (arith, split, none, one_if-other 1 n (λ (same : 1 ≡ n). other (sym same)), most, some h l other (reached pages 1 n (inner_of base 2 pages h n lt e).place))
        ]
    by_height (suc (suc (suc height))) h l = absurd (omega (arith, h.small))

-- ---- the map

module _ (base height : ℕ) (pages : PageMap) (h : PagesTested base height pages) where
  -- a page of a kind that no level has
  other_bits : (n : ℕ) → n < 4096 → (kind : Kind) → (pages n).kind ≡ kind → (kind_number kind == 4) ≡ false → kind ≢ Leaf → kind ≢ Inner → bit_of (pages 0).bits n ≡ one_if (n == 0)
      → bit_of (pages 0).bits n ≡ one_if (n == 0) + uses n (tree_pages pages height) + one_if (is_of Undo (pages n))
  other_bits n lt kind e test leaf inner bit =
      let none = not_under pages height n (root ∷ []) (levels base height pages h) (λ (k : (pages n).kind ≡ Leaf). leaf (sym e ∙ k)) (λ (k : (pages n).kind ≡ Inner). inner (sym e ∙ k)) in
      omega (arith, bit, none, not_undo (pages n) kind e test)

  -- a page of the tree
  tree_bits : (n : ℕ) → n < 4096 → (kind : Kind) → (pages n).kind ≡ kind → (kind_number kind == 4) ≡ false → (kind_number kind == 0) ≡ false → kind ≢ Meta → uses n (tree_pages pages height) ≡ 1
      → bit_of (pages 0).bits n ≡ one_if (n == 0) + uses n (tree_pages pages height) + one_if (is_of Undo (pages n))
  tree_bits n lt kind e test some apart used =
      omega (arith, bit_set pages n kind e some (h.each n lt).bit, used, not_undo (pages n) kind e test, one_if-other n 0 (kind_apart pages n 0 kind Meta e h.meta apart))

  bits : (n : ℕ) → n < 4096 → bit_of (pages 0).bits n ≡ one_if (n == 0) + uses n (tree_pages pages height) + one_if (is_of Undo (pages n))
  bits n lt = by_kind (pages n).kind refl
    where
      by_kind : (kind : Kind) → (pages n).kind ≡ kind → bit_of (pages 0).bits n ≡ one_if (n == 0) + uses n (tree_pages pages height) + one_if (is_of Undo (pages n))
      by_kind Blank e =
          let apart = kind_apart pages n 0 Blank Meta e h.meta (λ (k : Blank ≡ Meta). absurd cc) in
          other_bits n lt Blank e refl (λ (k : Blank ≡ Leaf). absurd cc) (λ (k : Blank ≡ Inner). absurd cc) (bit_clear pages n e (h.each n lt).bit ∙ sym (one_if-other n 0 apart))
      by_kind Meta e =
          let zero_is : n ≡ 0 = eqb-true n 0 (placed_as height pages n Meta e (h.each n lt).place) in
          other_bits n lt Meta e refl (λ (k : Meta ≡ Leaf). absurd cc) (λ (k : Meta ≡ Inner). absurd cc) (bit_set pages n Meta e refl (h.each n lt).bit ∙ sym (ap (λ (m : ℕ). one_if (m == 0)) zero_is))
      by_kind Leaf e = tree_bits n lt Leaf e refl refl (λ (k : Leaf ≡ Meta). absurd cc) (leaf_used base height pages h n lt e)
      by_kind Inner e = tree_bits n lt Inner e refl refl (λ (k : Inner ≡ Meta). absurd cc) (inner_used base height pages h n lt e)
      by_kind Undo e = absurd (false≢true (placed_as height pages n Undo e (h.each n lt).place))

  blank : (n : ℕ) → n < 4096 → bit_of (pages 0).bits n ≡ 0 → (pages n).kind ≡ Blank
  blank n lt clear = by_kind (pages n).kind refl
    where
      by_kind : (kind : Kind) → (pages n).kind ≡ kind → (pages n).kind ≡ Blank
      by_kind Blank e = e
      by_kind Meta e = absurd (omega (arith, clear, bit_set pages n Meta e refl (h.each n lt).bit))
      by_kind Leaf e = absurd (omega (arith, clear, bit_set pages n Leaf e refl (h.each n lt).bit))
      by_kind Inner e = absurd (omega (arith, clear, bit_set pages n Inner e refl (h.each n lt).bit))
      by_kind Undo e = absurd (omega (arith, clear, bit_set pages n Undo e refl (h.each n lt).bit))

  no_undo : (n : ℕ) → n < 4096 → (pages n).kind ≢ Undo
  no_undo n lt = λ (e : (pages n).kind ≡ Undo). absurd (false≢true (placed_as height pages n Undo e (h.each n lt).place))

  tree : IsTree pages height
  tree = record {
    sound = h.sound;
    meta = h.meta;
    levels = levels base height pages h;
    leaf_fill = λ n lt other e. rows_enough n (length (pages n).rows) (leaf_of base height pages h n lt e).count other;
    inner_fill = λ n lt other e. children_enough n (length (pages n).children) (inner_of base height pages h n lt e).count other;
    root_fill = λ e. leb-true 2 (length (pages 1).children) (inner_of base height pages h 1 (omega arith) e).count;
    bits = bits;
    blank = blank;
  }

pub pages_clean : (base height : ℕ) (pages : PageMap) → PagesTested base height pages → height ≡ height_of pages → IsClean base pages
pages_clean base height pages h e = record {
  tree = subst (IsTree pages) e (tree base height pages h);
  no_undo = no_undo base height pages h;
  no_writers = λ n lt k. unwritten (pages n).rows (leaf_of base height pages h n lt k).rows;
  llsns = λ n lt. (h.each n lt).llsn;
}
