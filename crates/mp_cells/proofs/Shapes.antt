-- Changes that keep a tree's shape: each page of the tree keeps its kind, its fences and its children.
use Rattle.std.proofs.Common.{◌≡◌, ℕ, zero, suc, ◌+◌, ◌<◌, ◌≤◌, List, [], ◌∷◌, ◌++◌, length, map, refl, sym, ap, subst, ◌∙◌, arith}
use Rattle.mp_cells.specs.declared.kinds.Kind.{Kind}
use Rattle.mp_cells.specs.declared.kinds.Kind.TheVariants.{Blank, Meta, Leaf, Inner, Undo}
use Rattle.mp_cells.specs.declared.rows.Row.{Row}
use Rattle.mp_cells.specs.declared.children.Child.{Child}
use Rattle.mp_cells.specs.PageView.{PageView, IsPage, is_of, bit_of}
use Rattle.mp_cells.specs.Trees.{PageMap, top, root, Fits, below, Levels, leaves, pages_under, one_if, uses, rows_under, tree_rows}
use Rattle.mp_cells.proofs.Spare.{TreeWith}
use Rattle.mp_cells.proofs.Places.{leaves_fit}

-- a page that has what its parent and its children see of it
pub record SameNode (old new : PageView) : Type 0 where
  pub kind : new.kind ≡ old.kind
  pub low : new.low ≡ old.low
  pub high : new.high ≡ old.high
  pub children : new.children ≡ old.children

pub record SameShape (pages new : PageMap) : Type 0 where
  pub leaf : (n : ℕ) → (pages n).kind ≡ Leaf → SameNode (pages n) (new n)
  pub inner : (n : ℕ) → (pages n).kind ≡ Inner → SameNode (pages n) (new n)

fits_same : (pages new : PageMap) (kind : Kind) → ((n : ℕ) → (pages n).kind ≡ kind → SameNode (pages n) (new n)) → (high : ℕ) (level : List Child) → Fits pages kind high level → Fits new kind high level
fits_same pages new kind same high [] f = tt
fits_same pages new kind same high (child ∷ level) f =
    let here = same child.page f.0 in
    (here.kind ∙ f.0, here.low ∙ f.1, here.high ∙ f.2, fits_same pages new kind same high level f.3)

below_same : (pages new : PageMap) → ((n : ℕ) → (pages n).kind ≡ Inner → SameNode (pages n) (new n)) → (high : ℕ) (level : List Child) → Fits pages Inner high level → below new level ≡ below pages level
below_same pages new same high [] f = refl
below_same pages new same high (child ∷ level) f =
    ap (λ (xs : List Child). xs ++ below new level) (same child.page f.0).children ∙ ap (λ (xs : List Child). (pages child.page).children ++ xs) (below_same pages new same high level f.3)

-- a level and those under it, with the same pages and the same leaves
pub record SameLevels (pages new : PageMap) (height : ℕ) (level : List Child) : Type 0 where
  pub levels : Levels new height level
  pub numbers : pages_under new height level ≡ pages_under pages height level
  pub leaves : leaves new height level ≡ leaves pages height level

pub same_levels : (pages new : PageMap) → SameShape pages new → (height : ℕ) (level : List Child) → Levels pages height level → SameLevels pages new height level
same_levels pages new s zero level l = record { levels = fits_same pages new Leaf s.leaf top level l; numbers = refl; leaves = refl }
same_levels pages new s (suc height) level l =
    let next = below_same pages new s.inner top level l.0 in
    let rest = same_levels pages new s height (below pages level) l.1 in
    record {
      levels = (fits_same pages new Inner s.inner top level l.0, subst (Levels new height) (sym next) rest.levels);
      numbers = ap (λ (xs : List ℕ). map (λ child. child.page) level ++ xs) (ap (pages_under new height) next ∙ rest.numbers);
      leaves = ap (leaves new height) next ∙ rest.leaves;
    }

-- what the rest of a map must keep
pub record Keeps (spare spare' : List ℕ) (pages new : PageMap) : Type 0 where
  pub shape : SameShape pages new
  pub sound : (n : ℕ) → n < 4096 → IsPage (new n)
  pub meta : (new 0).kind ≡ Meta
  -- no page becomes one of the tree, and no leaf loses rows
  pub leaf_before : (n : ℕ) → (new n).kind ≡ Leaf → (pages n).kind ≡ Leaf
  pub inner_before : (n : ℕ) → (new n).kind ≡ Inner → (pages n).kind ≡ Inner
  pub rows : (n : ℕ) → (pages n).kind ≡ Leaf → length (pages n).rows ≤ length (new n).rows
  -- the bits follow the undo pages and the spare ones
  pub bits : (n : ℕ) → n < 4096 → bit_of (new 0).bits n + one_if (is_of Undo (pages n)) + uses n spare ≡ bit_of (pages 0).bits n + one_if (is_of Undo (new n)) + uses n spare'
  pub blank : (n : ℕ) → n < 4096 → bit_of (new 0).bits n ≡ 0 → (new n).kind ≡ Blank
  pub unused : (n : ℕ) → n < 4096 → 1 ≤ uses n spare' → (new n).kind ≡ Blank

-- then it is a tree again
pub kept_tree : (spare spare' : List ℕ) (pages new : PageMap) (height : ℕ) → Keeps spare spare' pages new → TreeWith spare pages height → TreeWith spare' new height
kept_tree spare spare' pages new height k tree =
    let same = same_levels pages new k.shape height (root ∷ []) tree.levels in
    record {
      sound = k.sound;
      meta = k.meta;
      levels = same.levels;
      leaf_fill = λ n lt ne kind. omega (arith, k.rows n (k.leaf_before n kind), tree.leaf_fill n lt ne (k.leaf_before n kind));
      inner_fill = λ n lt ne kind. subst (λ (cs : List Child). 62 ≤ length cs) (sym (k.shape.inner n (k.inner_before n kind)).children) (tree.inner_fill n lt ne (k.inner_before n kind));
      root_fill = λ kind. subst (λ (cs : List Child). 2 ≤ length cs) (sym (k.shape.inner 1 (k.inner_before 1 kind)).children) (tree.root_fill (k.inner_before 1 kind));
      bits = λ n lt. omega (arith, k.bits n lt, tree.bits n lt, ap (uses n) same.numbers);
      blank = k.blank;
      unused = k.unused;
    }

-- and where no leaf's rows change, the rows are the same
rows_same : (pages new : PageMap) → ((n : ℕ) → (pages n).kind ≡ Leaf → (new n).rows ≡ (pages n).rows) → (high : ℕ) (level : List Child) → Fits pages Leaf high level → rows_under new level ≡ rows_under pages level
rows_same pages new same high [] f = refl
rows_same pages new same high (child ∷ level) f =
    ap (λ (xs : List Row). xs ++ rows_under new level) (same child.page f.0) ∙ ap (λ (xs : List Row). (pages child.page).rows ++ xs) (rows_same pages new same high level f.3)

pub kept_leaves : (spare : List ℕ) (pages new : PageMap) (height : ℕ) → SameShape pages new → TreeWith spare pages height → leaves new height (root ∷ []) ≡ leaves pages height (root ∷ [])
kept_leaves spare pages new height shape tree = (same_levels pages new shape height (root ∷ []) tree.levels).leaves

pub kept_rows : (spare : List ℕ) (pages new : PageMap) (height : ℕ) → SameShape pages new → TreeWith spare pages height → ((n : ℕ) → (pages n).kind ≡ Leaf → (new n).rows ≡ (pages n).rows) → tree_rows new height ≡ tree_rows pages height
kept_rows spare pages new height shape tree same =
    ap (rows_under new) (kept_leaves spare pages new height shape tree) ∙ rows_same pages new same top (leaves pages height (root ∷ [])) (leaves_fit pages height (root ∷ []) tree.levels)
