-- Where a leaf stands in a tree, and what that says of the rows of all leaves.
use Rattle.std.proofs.Common.{◌≡◌, ◌≢◌, ℕ, zero, suc, ◌+◌, ◌<◌, ◌≤◌, ◌==◌, List, [], ◌∷◌, ◌++◌, refl, sym, ap, subst, ◌∙◌, inl, inr, arith}
use Rattle.std.proofs.lemmas.Bool.{cases_eq}
use Rattle.std.proofs.lemmas.List.Concat.{flat_map-append}
use Rattle.mp_cells.specs.declared.kinds.Kind.{Kind}
use Rattle.mp_cells.specs.declared.kinds.Kind.TheVariants.{Leaf, Inner}
use Rattle.mp_cells.specs.declared.children.Child.{Child}
use Rattle.mp_cells.specs.PageView.{IsPage}
use Rattle.mp_cells.specs.Trees.{PageMap, top, root, low_of, Fits, below, Levels, leaves, pages_under, one_if, uses, rows_under, tree_rows, row_at}
use Rattle.mp_cells.proofs.KeyOrder.{Rises}
use Rattle.mp_cells.proofs.TreeSearch.{InRange, below_in_range, fits_parts, FitsInParts, level_rises, root_range}
use Rattle.mp_cells.proofs.Stretches.{row_at-below, row_at-above, row_at-append}
use Rattle.mp_cells.proofs.Uses.{uses-append, one_if-same, one_if-other}
use Rattle.mp_cells.proofs.Spare.{TreeWith, leaf_once}
use Rattle.mp_cells.proofs.Heights.{numbers}

-- a page of another kind isn't in a level
pub not_in_level : (pages : PageMap) (kind : Kind) (high n : ℕ) (level : List Child) → Fits pages kind high level → (pages n).kind ≢ kind → uses n (numbers level) ≡ 0
not_in_level pages kind high n [] f other = refl
not_in_level pages kind high n (child ∷ level) f other =
    let apart : child.page ≢ n = λ (e : child.page ≡ n). other (subst (λ (m : ℕ). (pages m).kind ≡ kind) e f.0) in
    omega (arith, one_if-other child.page n apart, not_in_level pages kind high n level f.3 other)

-- a leaf is used among the leaves
pub leaf_uses : (pages : PageMap) (height n : ℕ) (level : List Child) → Levels pages height level → (pages n).kind ≡ Leaf → uses n (pages_under pages height level) ≡ uses n (numbers (leaves pages height level))
leaf_uses pages zero n level l kind = refl
leaf_uses pages (suc height) n level l kind =
    let other : (pages n).kind ≢ Inner = λ (e : (pages n).kind ≡ Inner). let both : Leaf ≡ Inner = sym kind ∙ e in absurd cc in
    omega (arith, uses-append n (numbers level) (pages_under pages height (below pages level)), not_in_level pages Inner top n level l.0 other, leaf_uses pages height n (below pages level) l.1 kind)

-- the leaves fit
pub leaves_fit : (pages : PageMap) (height : ℕ) (level : List Child) → Levels pages height level → Fits pages Leaf top (leaves pages height level)
leaves_fit pages zero level l = l
leaves_fit pages (suc height) level l = leaves_fit pages height (below pages level) l.1

pub leaves_in_range : (pages : PageMap) → ((n : ℕ) → n < 4096 → IsPage (pages n)) → (height : ℕ) (level : List Child) → InRange level → Levels pages height level → InRange (leaves pages height level)
leaves_in_range pages sound zero level r l = r
leaves_in_range pages sound (suc height) level r l = leaves_in_range pages sound height (below pages level) (below_in_range pages sound top level r l.0) l.1

-- a page that a level uses stands in it
pub record InLevel (n : ℕ) (level : List Child) : Type 0 where
  pub before : List Child
  pub child : Child
  pub behind : List Child
  pub whole : level ≡ before ++ child ∷ behind
  pub page_is : child.page ≡ n

pub in_level : (n : ℕ) (level : List Child) → 1 ≤ uses n (numbers level) → InLevel n level
in_level n [] h = absurd (omega (arith, h))
in_level n (child ∷ level) h = elim (cases_eq child.page n) [
  | inl same ↦ record { before = []; child = child; behind = level; whole = refl; page_is = same }
  | inr other ↦
      let rest = in_level n level (omega (arith, h, one_if-other child.page n other)) in
      record { before = child ∷ rest.before; child = rest.child; behind = rest.behind; whole = ap (λ (xs : List Child). child ∷ xs) rest.whole; page_is = rest.page_is }
]

pub numbers-append : (xs ys : List Child) → numbers (xs ++ ys) ≡ numbers xs ++ numbers ys
numbers-append [] ys = refl
numbers-append (x ∷ xs) ys = ap (λ (ns : List ℕ). x.page ∷ ns) (numbers-append xs ys)

-- how often a page in a level is used in its parts
pub parts_uses : (n m : ℕ) (before : List Child) (child : Child) (behind : List Child) → child.page ≡ m → uses n (numbers (before ++ child ∷ behind)) ≡ uses n (numbers before) + (one_if (m == n) + uses n (numbers behind))
parts_uses n m before child behind e =
    ap (uses n) (numbers-append before (child ∷ behind)) ∙ uses-append n (numbers before) (numbers (child ∷ behind)) ∙ ap (λ (k : ℕ). uses n (numbers before) + (one_if (k == n) + uses n (numbers behind))) e

-- a leaf among the leaves of a tree
pub record LeafPlace (pages : PageMap) (height n : ℕ) : Type 0 where
  pub before : List Child
  pub child : Child
  pub behind : List Child
  pub whole : leaves pages height (root ∷ []) ≡ before ++ child ∷ behind
  pub page_is : child.page ≡ n
  pub not_before : uses n (numbers before) ≡ 0
  pub not_behind : uses n (numbers behind) ≡ 0
  pub fits : FitsInParts pages Leaf top before child behind
  -- the rows before, in it, and behind
  pub rows : tree_rows pages height ≡ rows_under pages before ++ ((pages n).rows ++ rows_under pages behind)
  pub front : Rises (λ row. row.key) (low_of before child.low) (pages n).low (rows_under pages before)
  pub back : Rises (λ row. row.key) (low_of behind top) top (rows_under pages behind)
  pub next : (pages n).high ≡ low_of behind top

pub in_parts : (before : List Child) (child : Child) (behind : List Child) → InRange (before ++ child ∷ behind) → InRange before × InRange behind
in_parts [] child behind r = (tt, r.1)
in_parts (b ∷ before) child behind r = let rest = in_parts before child behind r.1 in ((r.0, rest.0), rest.1)

pub leaf_place : (spare : List ℕ) (pages : PageMap) (height n : ℕ) → TreeWith spare pages height → n < 4096 → (pages n).kind ≡ Leaf → LeafPlace pages height n
leaf_place spare pages height n tree lt kind =
    let all = leaves pages height (root ∷ []) in
    let once : uses n (numbers all) ≡ 1 = sym (leaf_uses pages height n (root ∷ []) tree.levels kind) ∙ leaf_once spare pages height tree n lt kind in
    let at = in_level n all (omega (arith, once)) in
    let count : uses n (numbers (at.before ++ at.child ∷ at.behind)) ≡ 1 = ap (λ (xs : List Child). uses n (numbers xs)) (sym at.whole) ∙ once in
    let parts = parts_uses n n at.before at.child at.behind at.page_is in
    let fits = fits_parts pages Leaf top at.before at.child at.behind (subst (Fits pages Leaf top) at.whole (leaves_fit pages height (root ∷ []) tree.levels)) in
    let range = in_parts at.before at.child at.behind (subst InRange at.whole (leaves_in_range pages tree.sound height (root ∷ []) root_range tree.levels)) in
    let low : at.child.low ≡ (pages n).low = sym fits.low_is ∙ ap (λ (m : ℕ). (pages m).low) at.page_is in
    record {
      before = at.before;
      child = at.child;
      behind = at.behind;
      whole = at.whole;
      page_is = at.page_is;
      not_before = omega (arith, count, parts, one_if-same n);
      not_behind = omega (arith, count, parts, one_if-same n);
      fits = fits;
      rows = ap (rows_under pages) at.whole ∙ flat_map-append (λ (c : Child). (pages c.page).rows) at.before (at.child ∷ at.behind) ∙ ap (λ (m : ℕ). rows_under pages at.before ++ ((pages m).rows ++ rows_under pages at.behind)) at.page_is;
      front = subst (λ (high : ℕ). Rises (λ row. row.key) (low_of at.before at.child.low) high (rows_under pages at.before)) low (level_rises pages tree.sound at.child.low at.before range.0 fits.front);
      back = level_rises pages tree.sound top at.behind range.1 fits.back;
      next = ap (λ (m : ℕ). (pages m).high) (sym at.page_is) ∙ fits.high_is;
    }

-- a key between the fences of a leaf has its row there
pub row_in_leaf : (spare : List ℕ) (pages : PageMap) (height n key : ℕ) → TreeWith spare pages height → n < 4096 → (pages n).kind ≡ Leaf → (pages n).low ≤ key → key < (pages n).high → row_at key (tree_rows pages height) ≡ row_at key (pages n).rows
row_in_leaf spare pages height n key tree lt kind from until =
    let p = leaf_place spare pages height n tree lt kind in
    ap (row_at key) p.rows
    ∙ row_at-below key (low_of p.before p.child.low) (pages n).low (rows_under pages p.before) ((pages n).rows ++ rows_under pages p.behind) p.front from
    ∙ row_at-append key (pages n).rows (rows_under pages p.behind) (row_at-above key (low_of p.behind top) top (rows_under pages p.behind) p.back (omega (arith, until, p.next)))
