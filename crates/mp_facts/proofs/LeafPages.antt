-- In a tree one leaf has a key between its fences, and a put changes that leaf.
use Rattle.std.proofs.Common.{◌≡◌, ℕ, zero, suc, ◌+◌, ◌<◌, ◌≤◌, ◌==◌, ◌⊎◌, Bool, true, false, List, ◌∷◌, [], length, refl, sym, ap, subst, ◌∙◌, inl, inr, arith}
use Rattle.std.proofs.lemmas.Bool.{eqb-true}
use Rattle.mp_cells.specs.declared.children.Child.{Child}
use Rattle.mp_cells.specs.declared.kinds.Kind.TheVariants.{Leaf, Inner}
use Rattle.mp_cells.specs.declared.records.Mtr.{Mtr}
use Rattle.mp_cells.specs.declared.rows.Row.{Row}
use Rattle.mp_cells.specs.PageView.{PageView, IsPage}
use Rattle.mp_cells.specs.Trees.{PageMap, top, root, low_of, Fits, below, Levels, pages_under, tree_rows, row_at, one_if, uses, leaf_at, height_of, IsTree, IsClean}
use Rattle.mp_cells.specs.Plans.{plan_of, touches}
use Rattle.mp_cells.specs.Writes.{undo_at, rows_put, version_of}
use Rattle.mp_cells.proofs.Heights.{numbers}
use Rattle.mp_cells.proofs.MtrPages.{mtr_untouched}
use Rattle.mp_cells.proofs.Spare.{with_none, leaf_facts, leaf_once}
use Rattle.mp_cells.proofs.TreeSearch.{InRange, root_range, below_in_range, tree_found}
use Rattle.mp_cells.proofs.Uses.{uses-append}
use Rattle.mp_plans.specs.Fitting.{IsLeafOf}
use Rattle.mp_histories.specs.KeyOps.{live}
use Rattle.mp_histories.specs.Histories.{History, pages_after, Version, by_version, rows_of_versions, live_on}
use Rattle.mp_histories.specs.Chains.{IsChain, row_of_key, RunsFrom}
use Rattle.mp_histories.proofs.ChainFacts.{chain_one}
use Rattle.mp_histories.proofs.Standing.{has_chains}
use Rattle.mp_histories.proofs.KeySteps.{puts_version}

two_kinds : Leaf ≡ Inner → ⊥
two_kinds e = absurd cc

-- a number is the first of some, or among the others
first_or_rest : (n m : ℕ) (others : List ℕ) → 1 ≤ uses n (m ∷ others) → (m ≡ n) ⊎ (1 ≤ uses n others)
first_or_rest n m others used = by_test (m == n) refl used
  where
    by_test : (b : Bool) → (m == n) ≡ b → 1 ≤ one_if b + uses n others → (m ≡ n) ⊎ (1 ≤ uses n others)
    by_test true e h = inl (eqb-true m n e)
    by_test false e h = inr (omega (arith, h))

module _ (pages : PageMap) (sound : (n : ℕ) → n < 4096 → IsPage (pages n)) where
  fences : (n : ℕ) → n < 4096 → (pages n).kind ≡ Leaf → (pages n).low < (pages n).high
  fences n lt kind = (leaf_facts (pages n) (sound n lt) kind).low_below

  -- the leaves of a level begin where it begins, or behind
  low_least : (high : ℕ) (level : List Child) → InRange level → Fits pages Leaf high level → (n : ℕ) → 1 ≤ uses n (numbers level) → low_of level high ≤ (pages n).low
  low_least high [] range fits n used = absurd (omega (arith, used))
  low_least high (child ∷ level) range fits n used = elim (first_or_rest n child.page (numbers level) used) [
    | inl is ↦ (let low = fits.1 in let same = ap (λ (k : ℕ). (pages k).low) is in omega (arith, low, same))
    | inr rest ↦ (let low = fits.1 in let until = fits.2 in let less = fences child.page range.0 fits.0 in let more = low_least high level range.1 fits.3 n rest in omega (arith, low, until, less, more))
  ]

  inner_of_level : (high : ℕ) (level : List Child) → Fits pages Inner high level → (n : ℕ) → 1 ≤ uses n (numbers level) → (pages n).kind ≡ Inner
  inner_of_level high [] fits n used = absurd (omega (arith, used))
  inner_of_level high (child ∷ level) fits n used = elim (first_or_rest n child.page (numbers level) used) [
    | inl is ↦ subst (λ (k : ℕ). (pages k).kind ≡ Inner) is fits.0
    | inr rest ↦ inner_of_level high level fits.3 n rest
  ]

  module _ (key n m : ℕ) (one : IsLeafOf key (pages n)) (other : IsLeafOf key (pages m)) where
    -- a leaf that ends before another begins has not both the key
    apart : (a b : ℕ) → IsLeafOf key (pages a) → IsLeafOf key (pages b) → (high : ℕ) (child : Child) (level : List Child) → Fits pages Leaf high (child ∷ level) → InRange level → child.page ≡ a → 1 ≤ uses b (numbers level) → ⊥
    apart a b leaf_a leaf_b high child level fits range is used =
        let until = fits.2 in
        let more = low_least high level range fits.3 b used in
        let same = ap (λ (k : ℕ). (pages k).high) is in
        let from = leaf_b.from in
        let to = leaf_a.until in
        absurd (omega (arith, until, more, same, from, to))

    one_at_level : (high : ℕ) (level : List Child) → InRange level → Fits pages Leaf high level → 1 ≤ uses n (numbers level) → 1 ≤ uses m (numbers level) → n ≡ m
    one_at_level high [] range fits used_n used_m = absurd (omega (arith, used_n))
    one_at_level high (child ∷ level) range fits used_n used_m = elim (first_or_rest n child.page (numbers level) used_n) [
      | inl is_n ↦ elim (first_or_rest m child.page (numbers level) used_m) [
        | inl is_m ↦ sym is_n ∙ is_m
        | inr rest_m ↦ absurd (apart n m one other high child level fits range.1 is_n rest_m)
      ]
      | inr rest_n ↦ elim (first_or_rest m child.page (numbers level) used_m) [
        | inl is_m ↦ absurd (apart m n other one high child level fits range.1 is_m rest_n)
        | inr rest_m ↦ one_at_level high level range.1 fits.3 rest_n rest_m
      ]
    ]

    -- a leaf is below a level of inner pages
    goes_below : (k : ℕ) → (pages k).kind ≡ Leaf → (height : ℕ) (level : List Child) → Fits pages Inner top level → 1 ≤ uses k (pages_under pages (suc height) level) → 1 ≤ uses k (pages_under pages height (below pages level))
    goes_below k kind height level fits used =
        let both : uses k (pages_under pages (suc height) level) ≡ uses k (numbers level) + uses k (pages_under pages height (below pages level)) = uses-append k (numbers level) (pages_under pages height (below pages level)) in
        not_here (uses k (numbers level)) (λ here. two_kinds (sym kind ∙ inner_of_level top level fits k here)) (omega (arith, both, used))
      where
        not_here : (here : ℕ) → (1 ≤ here → ⊥) → 1 ≤ here + uses k (pages_under pages height (below pages level)) → 1 ≤ uses k (pages_under pages height (below pages level))
        not_here zero none used = omega (arith, used)
        not_here (suc here) none used = absurd (none (omega arith))

    one_under : (height : ℕ) (level : List Child) → InRange level → Levels pages height level → 1 ≤ uses n (pages_under pages height level) → 1 ≤ uses m (pages_under pages height level) → n ≡ m
    one_under zero level range levels used_n used_m = one_at_level top level range levels used_n used_m
    one_under (suc height) level range levels used_n used_m =
        one_under height (below pages level) (below_in_range pages sound top level range levels.0) levels.1 (goes_below n one.kind height level levels.0 used_n) (goes_below m other.kind height level levels.0 used_m)

module _ (pages : PageMap) (height : ℕ) (tree : IsTree pages height) where
  pub one_leaf : (key n m : ℕ) → n < 4096 → m < 4096 → IsLeafOf key (pages n) → IsLeafOf key (pages m) → n ≡ m
  one_leaf key n m low high one other =
      one_under pages tree.sound key n m one other height (root ∷ []) root_range tree.levels
      (omega (arith, leaf_once [] pages height (with_none pages height tree) n low one.kind)) (omega (arith, leaf_once [] pages height (with_none pages height tree) m high other.kind))

  pub key_below_top : (key n : ℕ) → n < 4096 → IsLeafOf key (pages n) → key < top
  key_below_top key n lt leaf = (let most = (leaf_facts (pages n) (tree.sound n lt) leaf.kind).high_most in let until = leaf.until in omega (arith, most, until))

  -- the leaf of a key
  abbrev pub leaf_number : ℕ → ℕ
  leaf_number key = (leaf_at pages height key root).page

  pub leaf_there : (key : ℕ) → key < top → (leaf_number key < 4096) × IsLeafOf key (pages (leaf_number key))
  leaf_there key lt = let found = tree_found pages height key tree lt in (found.range, record { kind = found.kind; from = found.from; until = found.until })

  -- the tree's row of the key is the leaf's
  pub row_there : (key n : ℕ) → n < 4096 → IsLeafOf key (pages n) → row_at key (tree_rows pages height) ≡ row_at key (pages n).rows
  row_there key n lt leaf =
      let below_top = key_below_top key n lt leaf in
      let there = leaf_there key below_top in
      (tree_found pages height key tree below_top).row ∙ ap (λ (k : ℕ). row_at key (pages k).rows) (one_leaf key (leaf_number key) n there.0 lt there.1 leaf)

longer : (row : Row) (rows : List Row) → row ∷ rows ≡ rows → ⊥
longer row rows e = let same = ap (λ (rs : List Row). length rs) e in absurd (omega (arith, same))

module _ (base : ℕ) (opening : PageMap) (clean : IsClean base opening) (history : History) (m : Mtr) (runs : RunsFrom opening (m ∷ history)) where
  -- a put of a key changes the leaf that has the key after it
  pub put_touches : (row : Row) (n : ℕ) → rows_put (plan_of m.records) ≡ row ∷ [] → n < 4096 → IsLeafOf row.key (pages_after opening (m ∷ history) n) → touches n (plan_of m.records) ≡ false → ⊥
  put_touches row n puts lt leaf untouched =
      let before : PageMap = pages_after opening history in
      let after : PageMap = pages_after opening (m ∷ history) in
      let same : after n ≡ before n = mtr_untouched m before n untouched in
      let was : IsLeafOf row.key (before n) = subst (IsLeafOf row.key) same leaf in
      let old = has_chains base opening clean history runs.1 in
      let new = has_chains base opening clean (m ∷ history) runs in
      let put = puts_version base opening clean history m runs row puts in
      let rows : row_of_key after row.key ≡ row_of_key before row.key =
      ap (version_of row.key) (row_there after (height_of after) new.tree row.key n lt leaf)
      ∙ ap (λ (p : PageView). version_of row.key (row_at row.key p.rows)) same
      ∙ sym (ap (version_of row.key) (row_there before (height_of before) old.tree row.key n lt was)) in
      let vs : List Row = rows_of_versions (live_on row.key history) in
      let last : Row = row_of_key opening row.key in
      let chain : IsChain (undo_at after) (row ∷ vs) last = subst (λ (xs : List Version). IsChain (undo_at after) (rows_of_versions xs) last) (ap (live by_version) put.ops) (new.chain row.key) in
      longer row vs (chain_one (undo_at after) (row ∷ vs) vs last last chain chain.1 (sym put.now ∙ rows ∙ old.head row.key)).rows
