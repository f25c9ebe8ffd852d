-- In a tree the rows of all leaves rise, and a key's row stands in the leaf that a search comes to.
use Rattle.std.proofs.Common.{◌≡◌, ℕ, zero, suc, ◌+◌, ◌<◌, ◌≤◌, true, List, [], ◌∷◌, ◌++◌, refl, sym, ap, subst, ◌∙◌, inl, inr, arith}
use mathlib.Core.Bool.{false≢true}
use Rattle.std.specs.List.{AllByRecursion}
use Rattle.std.proofs.lemmas.Bool.{cases_lt, eqb-true}
use Rattle.std.proofs.lemmas.Bool.Decides.{nat_tests}
use Rattle.std.proofs.lemmas.List.{append_assoc}
use Rattle.std.proofs.lemmas.List.Concat.{flat_map-append}
use Rattle.mp_cells.specs.declared.kinds.Kind.{Kind}
use Rattle.mp_cells.specs.declared.kinds.Kind.TheVariants.{Leaf, Inner}
use Rattle.mp_cells.specs.declared.rows.Row.{Row}
use Rattle.mp_cells.specs.declared.children.Child.{Child}
use Rattle.mp_cells.specs.Children.{IsChild}
use Rattle.mp_cells.specs.PageView.{IsPage, HasContent, begins_at}
use Rattle.mp_cells.specs.Trees.{PageMap, top, root, low_of, Fits, below, Levels, leaves, IsTree, rows_under, tree_rows, row_at, child_from, child_at, leaf_at}
use Rattle.mp_cells.proofs.KeyOrder.{Rises, Rises-wider}
use Rattle.mp_cells.proofs.Stretches.{row_at-below, row_at-above, row_at-append}
use Rattle.mp_cells.proofs.PageRanges.{LeafRanges, leaf_ranges, InnerRanges, inner_ranges}
use Rattle.mp_cells.proofs.ChildSpelling.{child_page_range}

-- one stretch of rising keys after another
pub Rises-append : {T : Type 0} (key : T → ℕ) (low mid high : ℕ) (xs ys : List T) → Rises key low mid xs → Rises key mid high ys → low ≤ mid → mid ≤ high → Rises key low high (xs ++ ys)
Rises-append key low mid high [] ys r s le most = Rises-wider key mid high low high ys le (omega arith) s
Rises-append key low mid high (x ∷ xs) ys r s le most =
    (r.0, omega (arith, r.1), Rises-append key (key x + 1) mid high xs ys r.2 s (omega (arith, r.1)) most)

-- every page of a level is among the 4,096
abbrev pub InRange : List Child → Type 0
InRange level = AllByRecursion (λ child. child.page < 4096) level

children_in_range : (children : List Child) → AllByRecursion IsChild children → InRange children
children_in_range [] h = tt
children_in_range (child ∷ children) h = ((child_page_range child.page h.0.page).1, children_in_range children h.1)

in_range-append : (xs ys : List Child) → InRange xs → InRange ys → InRange (xs ++ ys)
in_range-append [] ys h k = k
in_range-append (x ∷ xs) ys h k = (h.0, in_range-append xs ys h.1 k)

-- a key's place in a level: the child that may hold it, with those before it and behind it
pub record IsAt (key high : ℕ) (level : List Child) (child : Child) : Type 0 where
  pub before : List Child
  pub behind : List Child
  pub whole : level ≡ before ++ child ∷ behind
  pub from : child.low ≤ key
  pub until : key < low_of behind high

-- the child that a search takes
pub child_split : (key high : ℕ) (child : Child) (children : List Child) → child.low ≤ key → key < high → IsAt key high (child ∷ children) (child_from key child children)
child_split key high child [] from lt = record { before = []; behind = []; whole = refl; from = from; until = lt }
child_split key high child (next ∷ children) from lt = elim (cases_lt key next.low) [
  | inl under ↦
      let test : child_from key child (next ∷ children) ≡ child = grind (arith, nat_tests) in
      rw test (record { before = []; behind = next ∷ children; whole = refl; from = from; until = under })
  | inr over ↦
      let test : child_from key child (next ∷ children) ≡ child_from key next children = grind (arith, nat_tests) in
      let rest = child_split key high next children over lt in
      rw test (record { before = child ∷ rest.before; behind = rest.behind; whole = ap (λ (xs : List Child). child ∷ xs) rest.whole; from = rest.from; until = rest.until })
]

in_range_part : (before : List Child) (child : Child) (behind : List Child) → InRange (before ++ child ∷ behind) → InRange before × (child.page < 4096) × InRange behind
in_range_part [] child behind r = (tt, r.0, r.1)
in_range_part (b ∷ before) child behind r = let rest = in_range_part before child behind r.1 in ((r.0, rest.0), rest.1, rest.2)

-- a level in three parts
pub record FitsInParts (pages : PageMap) (kind : Kind) (high : ℕ) (before : List Child) (child : Child) (behind : List Child) : Type 0 where
  pub front : Fits pages kind child.low before
  pub kind_is : (pages child.page).kind ≡ kind
  pub low_is : (pages child.page).low ≡ child.low
  pub high_is : (pages child.page).high ≡ low_of behind high
  pub back : Fits pages kind high behind

pub fits_parts : (pages : PageMap) (kind : Kind) (high : ℕ) (before : List Child) (child : Child) (behind : List Child) → Fits pages kind high (before ++ child ∷ behind) → FitsInParts pages kind high before child behind
fits_parts pages kind high [] child behind f = record { front = tt; kind_is = f.0; low_is = f.1; high_is = f.2; back = f.3 }
fits_parts pages kind high (b ∷ before) child behind f =
    let rest = fits_parts pages kind high before child behind f.3 in
    record { front = (f.0, f.1, f.2 ∙ next before, rest.front); kind_is = rest.kind_is; low_is = rest.low_is; high_is = rest.high_is; back = rest.back }
  where
    next : (xs : List Child) → low_of (xs ++ child ∷ behind) high ≡ low_of xs child.low
    next [] = refl
    next (x ∷ xs) = refl

-- what a search comes to: a leaf whose fences hold the key, and whose row of the key is that of all leaves
pub record IsFound (pages : PageMap) (key : ℕ) (rows : List Row) (leaf : Child) : Type 0 where
  pub range : leaf.page < 4096
  pub kind : (pages leaf.page).kind ≡ Leaf
  pub from : (pages leaf.page).low ≤ key
  pub until : key < (pages leaf.page).high
  pub row : row_at key rows ≡ row_at key (pages leaf.page).rows

module _ (pages : PageMap) (sound : (n : ℕ) → n < 4096 → IsPage (pages n)) where
  -- what a page of a kind has
  content : (kind : Kind) (n : ℕ) → n < 4096 → (pages n).kind ≡ kind → HasContent kind (pages n)
  content kind n lt e = subst (λ (k : Kind). HasContent k (pages n)) e (sound n lt).content

  leaf_of : (n : ℕ) → n < 4096 → (pages n).kind ≡ Leaf → LeafRanges (pages n).low (pages n).high (pages n).rows
  leaf_of n lt e = leaf_ranges (pages n).low (pages n).high (pages n).rows (content Leaf n lt e).1

  inner_of : (n : ℕ) → n < 4096 → (pages n).kind ≡ Inner → InnerRanges (pages n).low (pages n).high (pages n).children
  inner_of n lt e = inner_ranges (pages n).low (pages n).high (pages n).children (content Inner n lt e).1

  -- a level ends below its bound
  leaf_bound : (high : ℕ) (level : List Child) → InRange level → Fits pages Leaf high level → low_of level high ≤ high
  leaf_bound high [] r f = omega arith
  leaf_bound high (child ∷ level) r f = omega (arith, (leaf_of child.page r.0 f.0).low_below, f.1, f.2, leaf_bound high level r.1 f.3)

  -- the rows of a level of leaves rise
  pub level_rises : (high : ℕ) (level : List Child) → InRange level → Fits pages Leaf high level → Rises (λ row. row.key) (low_of level high) high (rows_under pages level)
  level_rises high [] r f = tt
  level_rises high (child ∷ level) r f =
      let here = leaf_of child.page r.0 f.0 in
      let rows : Rises (λ row. row.key) child.low (low_of level high) (pages child.page).rows = rw (← f.1, ← f.2) here.rises in
      Rises-append (λ (row : Row). row.key) child.low (low_of level high) high (pages child.page).rows (rows_under pages level) rows (level_rises high level r.1 f.3) (omega (arith, here.low_below, f.1, f.2)) (leaf_bound high level r.1 f.3)

  -- the level below begins where the level begins
  first_low : (low high : ℕ) (children more : List Child) → begins_at low children ≡ true → low_of (children ++ more) high ≡ low
  first_low low high [] more h = absurd (false≢true h)
  first_low low high (child ∷ children) more h = eqb-true child.low low h

  pub low_of-below : (high : ℕ) (level : List Child) → InRange level → Fits pages Inner high level → low_of (below pages level) high ≡ low_of level high
  low_of-below high [] r f = refl
  low_of-below high (child ∷ level) r f =
      first_low (pages child.page).low high (pages child.page).children (below pages level) (inner_of child.page r.0 f.0).first ∙ f.1

  pub below_in_range : (high : ℕ) (level : List Child) → InRange level → Fits pages Inner high level → InRange (below pages level)
  below_in_range high [] r f = tt
  below_in_range high (child ∷ level) r f =
      in_range-append (pages child.page).children (below pages level) (children_in_range (pages child.page).children (content Inner child.page r.0 f.0).2) (below_in_range high level r.1 f.3)

  -- the rows under a level rise
  pub rows_rise : (height : ℕ) (level : List Child) → InRange level → Levels pages height level → Rises (λ row. row.key) (low_of level top) top (rows_under pages (leaves pages height level))
  rows_rise zero level r l = level_rises top level r l
  rows_rise (suc height) level r l =
      subst (λ (low : ℕ). Rises (λ row. row.key) low top (rows_under pages (leaves pages height (below pages level)))) (low_of-below top level r l.0)
      (rows_rise height (below pages level) (below_in_range top level r l.0) l.1)

  -- the search goes down one level
  children_at : (key low high : ℕ) (children : List Child) → begins_at low children ≡ true → low ≤ key → key < high → IsAt key high children (child_at key children)
  children_at key low high [] h from lt = absurd (false≢true h)
  children_at key low high (first ∷ children) h from lt = child_split key high first children (omega (arith, eqb-true first.low low h)) lt

  until_below : (key high bound : ℕ) (behind children : List Child) → key < low_of children bound → bound ≡ low_of behind high → InRange behind → Fits pages Inner high behind → key < low_of (children ++ below pages behind) high
  until_below key high bound behind [] lt is_bound r f = omega (arith, low_of-below high behind r f, is_bound)
  until_below key high bound behind (first ∷ children) lt is_bound r f = lt

  pub goes_down : (key high : ℕ) (level : List Child) (child : Child) → InRange level → Fits pages Inner high level → IsAt key high level child → IsAt key high (below pages level) (child_at key (pages child.page).children)
  goes_down key high level child range fits at =
      let r = in_range_part at.before child at.behind (subst InRange at.whole range) in
      let f = fits_parts pages Inner high at.before child at.behind (subst (Fits pages Inner high) at.whole fits) in
      let here = inner_of child.page r.1 f.kind_is in
      let next = children_at key (pages child.page).low (pages child.page).high (pages child.page).children here.first (omega (arith, f.low_is, at.from)) (omega (arith, f.high_is, at.until)) in
      let d = child_at key (pages child.page).children in
      let parts : below pages level ≡ below pages at.before ++ ((pages child.page).children ++ below pages at.behind) = ap (below pages) at.whole ∙ flat_map-append (λ (c : Child). (pages c.page).children) at.before (child ∷ at.behind) in
      let inner : (pages child.page).children ++ below pages at.behind ≡ next.before ++ d ∷ (next.behind ++ below pages at.behind) = ap (λ (xs : List Child). xs ++ below pages at.behind) next.whole ∙ append_assoc next.before (d ∷ next.behind) (below pages at.behind) in
      record {
        before = below pages at.before ++ next.before;
        behind = next.behind ++ below pages at.behind;
        whole = parts ∙ ap (λ (xs : List Child). below pages at.before ++ xs) inner ∙ sym (append_assoc (below pages at.before) next.before (d ∷ (next.behind ++ below pages at.behind)));
        from = next.from;
        until = until_below key high (pages child.page).high at.behind next.behind next.until f.high_is r.2 f.back;
      }

  found_here : (key : ℕ) (level : List Child) (child : Child) → InRange level → Fits pages Leaf top level → IsAt key top level child → IsFound pages key (rows_under pages level) child
  found_here key level child range fits at =
      let r = in_range_part at.before child at.behind (subst InRange at.whole range) in
      let f = fits_parts pages Leaf top at.before child at.behind (subst (Fits pages Leaf top) at.whole fits) in
      let parts : rows_under pages level ≡ rows_under pages at.before ++ ((pages child.page).rows ++ rows_under pages at.behind) = ap (rows_under pages) at.whole ∙ flat_map-append (λ (c : Child). (pages c.page).rows) at.before (child ∷ at.behind) in
      let front = level_rises child.low at.before r.0 f.front in
      let back = level_rises top at.behind r.2 f.back in
      record {
        range = r.1;
        kind = f.kind_is;
        from = omega (arith, f.low_is, at.from);
        until = omega (arith, f.high_is, at.until);
        row = ap (row_at key) parts
            ∙ row_at-below key (low_of at.before child.low) child.low (rows_under pages at.before) ((pages child.page).rows ++ rows_under pages at.behind) front at.from
            ∙ row_at-append key (pages child.page).rows (rows_under pages at.behind) (row_at-above key (low_of at.behind top) top (rows_under pages at.behind) back at.until);
      }

  pub found_under : (key height : ℕ) (level : List Child) (child : Child) → InRange level → Levels pages height level → IsAt key top level child → IsFound pages key (rows_under pages (leaves pages height level)) (leaf_at pages height key child)
  found_under key zero level child range levels at = found_here key level child range levels at
  found_under key (suc height) level child range levels at =
      found_under key height (below pages level) (child_at key (pages child.page).children) (below_in_range top level range levels.0) levels.1 (goes_down key top level child range levels.0 at)

  -- so many levels are one number: a level of leaves is none of inner pages
  below_first : (high : ℕ) (child : Child) (level : List Child) → InRange (child ∷ level) → Fits pages Inner high (child ∷ level) → (first : Child) × (rest : List Child) × (below pages (child ∷ level) ≡ first ∷ rest)
  below_first high child level range fits = has_first (pages child.page).low (pages child.page).children (below pages level) (inner_of child.page range.0 fits.0).first
    where
      has_first : (low : ℕ) (children more : List Child) → begins_at low children ≡ true → (first : Child) × (rest : List Child) × (children ++ more ≡ first ∷ rest)
      has_first low [] more h = absurd (false≢true h)
      has_first low (c ∷ children) more h = (c, children ++ more, refl)

  pub one_height : (a b : ℕ) (child : Child) (level : List Child) → InRange (child ∷ level) → Levels pages a (child ∷ level) → Levels pages b (child ∷ level) → a ≡ b
  one_height zero zero child level range l m = refl
  one_height zero (suc b) child level range l m = let both : Leaf ≡ Inner = sym l.0 ∙ m.0.0 in absurd cc
  one_height (suc a) zero child level range l m = let both : Leaf ≡ Inner = sym m.0 ∙ l.0.0 in absurd cc
  one_height (suc a) (suc b) child level range l m =
      let next = below_first top child level range l.0 in
      ap suc (one_height a b next.0 next.1
      (subst InRange next.2 (below_in_range top (child ∷ level) range l.0))
      (subst (Levels pages a) next.2 l.1) (subst (Levels pages b) next.2 m.1))

-- ---- over a tree

pub root_range : InRange (root ∷ [])
root_range = (omega arith, tt)

-- the rows of all leaves stand in key order
pub tree_rows_rise : (pages : PageMap) (height : ℕ) → IsTree pages height → Rises (λ row. row.key) 0 top (tree_rows pages height)
tree_rows_rise pages height tree = rows_rise pages tree.sound height (root ∷ []) root_range tree.levels

-- a search from the root comes to the leaf that holds the key, if any does
pub tree_found : (pages : PageMap) (height key : ℕ) (tree : IsTree pages height) → key < top → IsFound pages key (tree_rows pages height) (leaf_at pages height key root)
tree_found pages height key tree lt = found_under pages tree.sound key height (root ∷ []) root root_range tree.levels (record { before = []; behind = []; whole = refl; from = omega arith; until = lt })

-- a map has one height, so its rows depend on the map alone
pub height_unique : (pages : PageMap) (a b : ℕ) → IsTree pages a → IsTree pages b → a ≡ b
height_unique pages a b s t = one_height pages s.sound a b root [] root_range s.levels t.levels
