-- The pages of a clean map pass their tests.
use Rattle.std.proofs.Common.{◌≡◌, ◌≢◌, ℕ, zero, suc, ◌-◌, ◌<◌, ◌≤◌, ◌==◌, true, false, List, [], ◌∷◌, length, refl, sym, ap, subst, ◌∙◌, inl, inr, arith}
use Rattle.std.proofs.lemmas.Bool.{cases_eq, eq-eqb}
use Rattle.std.proofs.lemmas.List.{append-nil}
use Rattle.std.proofs.lemmas.Nat.Bits.{bit_at-lt}
use Rattle.mp_cells.specs.declared.kinds.Kind.{Kind}
use Rattle.mp_cells.specs.declared.kinds.Kind.TheVariants.{Blank, Meta, Leaf, Inner, Undo}
use Rattle.mp_cells.specs.declared.children.Child.{Child}
use Rattle.mp_cells.specs.PageView.{IsPage, kind_number, bit_of}
use Rattle.mp_cells.specs.Trees.{PageMap, top, root, Fits, below, Levels, leaves, pages_under, tree_pages, child_at, leaf_at, one_if, uses, height_of, IsTree, IsClean}
use Rattle.mp_cells.proofs.Heights.{numbers, height_most}
use Rattle.mp_cells.proofs.Places.{not_in_level, leaf_uses, leaves_fit, leaves_in_range, InLevel, in_level}
use Rattle.mp_cells.proofs.Spare.{not_undo, with_none, leaf_once, inner_once}
use Rattle.mp_cells.proofs.TreeSearch.{InRange, below_in_range, goes_down, root_range}
use Rattle.mp_cells.proofs.Uses.{uses-append, one_if-other, one_if-is}
use Rattle.mp_clean.specs.CleanPages.{kind_above, is_in_place, is_reached, has_own_bit}
use Rattle.mp_clean.proofs.Levels.{ChildrenFit, children_fit}
use Rattle.mp_clean.proofs.Used.{fence_range, at_this, at_leaf, at_root, not_under}
use Rattle.mp_clean.proofs.PageTests.{Fenced, unwritten_test, rows_test, children_test, set_test, clear_test, PageTests, as_placed, root_test, reached_test, tests_leaf, tests_inner, kind_under, under_other}

module _ (pages : PageMap) (height : ℕ) (tree : IsTree pages height) where
  -- a page of a kind that no level has
  other_bit : (n : ℕ) → n < 4096 → (kind : Kind) → (pages n).kind ≡ kind → (kind_number kind == 4) ≡ false → kind ≢ Leaf → kind ≢ Inner → bit_of (pages 0).bits n ≡ one_if (n == 0)
  other_bit n lt kind e test leaf inner =
      let none = not_under pages height n (root ∷ []) tree.levels (λ (k : (pages n).kind ≡ Leaf). leaf (sym e ∙ k)) (λ (k : (pages n).kind ≡ Inner). inner (sym e ∙ k)) in
      omega (arith, tree.bits n lt, none, not_undo (pages n) kind e test)

  pub blank_clear : (n : ℕ) → n < 4096 → (pages n).kind ≡ Blank → bit_of (pages 0).bits n ≡ 0
  blank_clear n lt e =
      let apart : n ≢ 0 = λ (z : n ≡ 0). let both : Blank ≡ Meta = sym e ∙ ap (λ (m : ℕ). (pages m).kind) z ∙ tree.meta in absurd cc in
      other_bit n lt Blank e refl (λ (k : Blank ≡ Leaf). absurd cc) (λ (k : Blank ≡ Inner). absurd cc) ∙ one_if-other n 0 apart

  pub meta_first : (n : ℕ) → n < 4096 → (pages n).kind ≡ Meta → n ≡ 0
  meta_first n lt e = elim (cases_eq n 0) [
    | inl same ↦ same
    | inr other ↦
        let clear = other_bit n lt Meta e refl (λ (k : Meta ≡ Leaf). absurd cc) (λ (k : Meta ≡ Inner). absurd cc) ∙ one_if-other n 0 other in
        let both : Meta ≡ Blank = sym e ∙ tree.blank n lt clear in
        absurd cc
  ]

  pub used_set : (n : ℕ) → n < 4096 → uses n (tree_pages pages height) ≡ 1 → bit_of (pages 0).bits n ≡ 1
  used_set n lt used = omega (arith, tree.bits n lt, used, bit_at-lt)

  pub leaf_reached : (n : ℕ) → n < 4096 → (pages n).kind ≡ Leaf → (leaf_at pages height (pages n).low root).page ≡ n
  leaf_reached n lt e =
      let key = (pages n).low in
      let range = fence_range 0 (pages n) (tree.sound n lt) e in
      let used = leaf_once [] pages height (with_none pages height tree) n lt e in
      at_this pages tree.sound 0 key top n (leaves pages height (root ∷ [])) (leaf_at pages height key root)
      (at_leaf pages tree.sound key height (root ∷ []) root root_range tree.levels (at_root key (omega (arith, range.0, range.1))))
      (leaves_in_range pages tree.sound height (root ∷ []) root_range tree.levels) (leaves_fit pages height (root ∷ []) tree.levels) refl
      (omega (arith, used, leaf_uses pages height n (root ∷ []) tree.levels e))

-- ---- inner pages

-- where an inner page stands, and that its children fit
record InnerPlace (under : ℕ) (pages : PageMap) (n : ℕ) : Type 0 where
  place : is_reached pages under n ≡ true
  children : Fits pages (kind_under under n) (pages n).high (pages n).children

root_children : (pages : PageMap) (kind : Kind) → (pages 1).high ≡ top → Fits pages kind top (below pages (root ∷ [])) → Fits pages kind (pages 1).high (pages 1).children
root_children pages kind e f = subst (λ (high : ℕ). Fits pages kind high (pages 1).children) (sym e) (subst (Fits pages kind top) (append-nil (pages 1).children) f)

root_place : (under : ℕ) (pages : PageMap) (n : ℕ) → n ≡ 1 → Fits pages (kind_above under) (pages 1).high (pages 1).children → InnerPlace under pages n
root_place under pages n e f = record {
  place = root_test pages under n e;
  children = subst (λ (m : ℕ). Fits pages (kind_under under m) (pages m).high (pages m).children) (sym e) f;
}

child_place : (pages : PageMap) → ((n : ℕ) → n < 4096 → IsPage (pages n)) → (n : ℕ) (level : List Child) → InLevel n level → InRange level → Fits pages Inner top level → Fits pages Leaf top (below pages level) → ChildrenFit pages Leaf n
child_place pages sound n level here range f g =
    subst (ChildrenFit pages Leaf) here.page_is (children_fit pages sound Leaf top here.before here.child here.behind (subst InRange here.whole range) (subst (Fits pages Inner top) here.whole f) (subst (λ (xs : List Child). Fits pages Leaf top (below pages xs)) here.whole g))

inner_place : (pages : PageMap) (height : ℕ) → IsTree pages height → (n : ℕ) → n < 4096 → (pages n).kind ≡ Inner → InnerPlace (height - 1) pages n
inner_place pages height tree n lt e = by_height height tree
  where
    not_leaf : (pages n).kind ≢ Leaf
    not_leaf = λ (leaf : (pages n).kind ≡ Leaf). let both : Leaf ≡ Inner = sym leaf ∙ e in absurd cc

    lower : IsTree pages 2 → n ≢ 1 → InnerPlace 1 pages n
    lower tree other =
        let l = tree.levels in
        let key = (pages n).low in
        let level = below pages (root ∷ []) in
        let used = inner_once [] pages 2 (with_none pages 2 tree) n lt e in
        let none = not_in_level pages Leaf top n (below pages level) l.1.1 not_leaf in
        let some : 1 ≤ uses n (numbers level) = omega (arith, used, uses-append n (1 ∷ []) (pages_under pages 1 level), uses-append n (numbers level) (numbers (below pages level)), none, one_if-other 1 n (λ (same : 1 ≡ n). other (sym same))) in
        let range = below_in_range pages tree.sound top (root ∷ []) root_range l.0 in
        let fences = fence_range 1 (pages n) (tree.sound n lt) e in
        let at = goes_down pages tree.sound key top (root ∷ []) root root_range l.0 (at_root key (omega (arith, fences.0, fences.1))) in
        record {
          place = reached_test pages 1 n (at_this pages tree.sound 1 key top n level (child_at key (pages 1).children) at range l.1.0 refl some);
          children = subst (λ (kind : Kind). Fits pages kind (pages n).high (pages n).children) (sym (under_other 1 n other)) (child_place pages tree.sound n level (in_level n level some) range l.1.0 l.1.1);
        }

    by_height : (height : ℕ) → IsTree pages height → InnerPlace (height - 1) pages n
    by_height zero tree =
        let used = inner_once [] pages 0 (with_none pages 0 tree) n lt e in
        absurd (omega (arith, used, not_in_level pages Leaf top n (root ∷ []) tree.levels not_leaf))
    by_height (suc zero) tree =
        let l = tree.levels in
        let used = inner_once [] pages 1 (with_none pages 1 tree) n lt e in
        let none = not_in_level pages Leaf top n (below pages (root ∷ [])) l.1 not_leaf in
        let same : 1 ≡ n = one_if-is 1 n (omega (arith, used, uses-append n (1 ∷ []) (numbers (below pages (root ∷ []))), none)) in
        root_place 0 pages n (sym same) (root_children pages Leaf l.0.2 l.1)
    by_height (suc (suc zero)) tree = elim (cases_eq n 1) [
      | inl same ↦ root_place 1 pages n same (root_children pages Inner tree.levels.0.2 tree.levels.1.0)
      | inr other ↦ lower tree other
    ]
    by_height (suc (suc (suc height))) tree = absurd (omega (arith, height_most pages (suc (suc (suc height))) tree))

-- ---- the map

root_fenced : (pages : PageMap) (height : ℕ) → Levels pages height (root ∷ []) → Fenced pages (kind_above height) top root
root_fenced pages zero l = record { kind_is = l.0; low_is = l.1; high_is = l.2 }
root_fenced pages (suc height) l = record { kind_is = l.0.0; low_is = l.0.1; high_is = l.0.2 }

pub first_tested : (base : ℕ) (pages : PageMap) → IsClean base pages → Fenced pages (kind_above (height_of pages)) top root
first_tested base pages h = root_fenced pages (height_of pages) h.tree.levels

module _ (base height : ℕ) (pages : PageMap) (tree : IsTree pages height) (h : IsClean base pages) (n : ℕ) (lt : n < 4096) where
  tests : (kind : Kind) → (pages n).kind ≡ kind → is_in_place kind height pages n ≡ true → has_own_bit pages n ≡ true → PageTests base height pages n
  tests kind e place bit = record { place = as_placed height pages n kind e place; llsn = h.llsns n lt; bit = bit }

  by_kind : (kind : Kind) → (pages n).kind ≡ kind → PageTests base height pages n
  by_kind Blank e = tests Blank e refl (clear_test pages n e (blank_clear pages height tree n lt e))
  by_kind Meta e =
      let same = meta_first pages height tree n lt e in
      let one : one_if (n == 0) ≡ 1 = ap (λ (m : ℕ). one_if (m == 0)) same in
      tests Meta e (eq-eqb n 0 same) (set_test pages n Meta e refl (omega (arith, tree.bits n lt, one, bit_at-lt)))
  by_kind Leaf e = tests Leaf e
      (tests_leaf height pages n (record {
        place = reached_test pages height n (leaf_reached pages height tree n lt e);
        count = rows_test n (length (pages n).rows) (λ (other : n ≢ 1). tree.leaf_fill n lt other e);
        rows = unwritten_test (pages n).rows (h.no_writers n lt e);
      }))
      (set_test pages n Leaf e refl (used_set pages height tree n lt (leaf_once [] pages height (with_none pages height tree) n lt e)))
  by_kind Inner e =
      let place = inner_place pages height tree n lt e in
      tests Inner e
      (tests_inner (height - 1) pages n (record {
        place = place.place;
        count = children_test n (length (pages n).children) (λ (one : n ≡ 1). root_count one) (λ (other : n ≢ 1). tree.inner_fill n lt other e);
        children = place.children;
      }))
      (set_test pages n Inner e refl (used_set pages height tree n lt (inner_once [] pages height (with_none pages height tree) n lt e)))
    where
      root_count : n ≡ 1 → 2 ≤ length (pages n).children
      root_count one = subst (λ (m : ℕ). 2 ≤ length (pages m).children) (sym one) (tree.root_fill (ap (λ (m : ℕ). (pages m).kind) (sym one) ∙ e))
  by_kind Undo e = absurd (h.no_undo n lt e)

pub each_tested : (base : ℕ) (pages : PageMap) → IsClean base pages → (n : ℕ) → n < 4096 → PageTests base (height_of pages) pages n
each_tested base pages h n lt = by_kind base (height_of pages) pages h.tree h n lt (pages n).kind refl
