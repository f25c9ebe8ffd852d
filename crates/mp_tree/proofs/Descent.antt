-- A search from the root: where it is after some levels, and where it ends.
use Rattle.std.proofs.Common.{◌≡◌, ◌≢◌, ℕ, zero, suc, ◌+◌, ◌<◌, ◌≤◌, ◌&&◌, nat_le, nat_lt, Bool, true, false, cond, List, [], ◌∷◌, ◌++◌, filter, Option, Some, None, IfSome, refl, sym, ap, subst, ◌∙◌, inl, inr, ◌⊎◌, arith}
use Rattle.std.proofs.lemmas.Bool.Decides.{nat_tests}
use Rattle.std.proofs.lemmas.List.{append-nil}
use Rattle.std.proofs.lemmas.List.Elements.{filter-append}
use Rattle.mp_cells.specs.declared.rows.Row.{Row}
use Rattle.mp_cells.proofs.KeyOrder.{Rises}
use Rattle.mp_cells.proofs.Places.{leaf_place}
use Rattle.mp_cells.proofs.Spare.{with_none, leaf_facts}
use Rattle.mp_tree.specs.declared.search.Stop.{Stop}
use Rattle.mp_tree.specs.declared.search.Path.{Path}
use Rattle.mp_tree.specs.Searches.{rows_above, leaf_for, AreLeafRows, IsLeafRead, IsPathAt, IsParentAt, path_on}
use Rattle.mp_page.specs.Pagers.{Handed, Extends}
use Rattle.mp_cells.specs.declared.kinds.Kind.{Kind}
use Rattle.mp_cells.specs.declared.kinds.Kind.TheVariants.{Blank, Meta, Leaf, Inner, Undo}
use Rattle.std.specs.List.{AllByRecursion}
use Rattle.mp_cells.specs.Children.{IsChild}
use Rattle.mp_cells.proofs.ChildSpelling.{child_page_range}
use Rattle.mp_cells.proofs.Uses.{one_if-other}
use Rattle.mp_tree.specs.Writing.{IsRead}
use Rattle.mp_cells.specs.declared.children.Child.{Child}
use Rattle.mp_cells.specs.PageView.{PageView, IsPage, HasContent}
use Rattle.mp_cells.specs.Trees.{PageMap, top, root, Fits, below, Levels, low_of, IsTree, rows_under, child_from, child_at, leaf_at, uses}
use Rattle.mp_cells.proofs.TreeSearch.{InRange, below_in_range, IsAt, goes_down, fits_parts, tree_found}
use Rattle.mp_cells.proofs.Heights.{height_most}
use Rattle.mp_cells.proofs.TreeSearch.{root_range}

-- so many levels below the root, a search for a key is at this page
pub record Reached (pages : PageMap) (height key depth number : ℕ) : Type 0 where
  pub rest : ℕ
  pub level : List Child
  pub child : Child
  pub height_is : height ≡ depth + rest
  pub number_is : number ≡ child.page
  pub range : InRange level
  pub levels : Levels pages rest level
  pub at : IsAt key top level child
  pub leaf : leaf_at pages height key root ≡ leaf_at pages rest key child

pub begins : (pages : PageMap) (height key : ℕ) → IsTree pages height → key < top → Reached pages height key 0 1
begins pages height key tree lt = record {
  rest = height;
  level = root ∷ [];
  child = root;
  height_is = omega arith;
  number_is = refl;
  range = root_range;
  levels = tree.levels;
  at = record { before = []; behind = []; whole = refl; from = omega arith; until = lt };
  leaf = refl;
}

-- the page is a leaf where the search ends, and else an inner page
pub leaf_here : (pages : PageMap) (rest key : ℕ) (level : List Child) (child : Child) → Levels pages rest level → IsAt key top level child → (pages child.page).kind ≡ Leaf → rest ≡ 0
leaf_here pages zero key level child levels at kind = refl
leaf_here pages (suc rest) key level child levels at kind =
    let f = fits_parts pages Inner top at.before child at.behind (subst (Fits pages Inner top) at.whole levels.0) in
    let both : Leaf ≡ Inner = sym kind ∙ f.kind_is in
    absurd cc

pub inner_here : (pages : PageMap) (rest key : ℕ) (level : List Child) (child : Child) → Levels pages rest level → IsAt key top level child → (pages child.page).kind ≡ Inner → (less : ℕ) × (rest ≡ suc less)
inner_here pages zero key level child levels at kind =
    let f = fits_parts pages Leaf top at.before child at.behind (subst (Fits pages Leaf top) at.whole levels) in
    let both : Leaf ≡ Inner = sym f.kind_is ∙ kind in
    absurd cc
inner_here pages (suc rest) key level child levels at kind = (rest, refl)

one_of : (pages : PageMap) (rest key : ℕ) (level : List Child) (child : Child) → Levels pages rest level → IsAt key top level child → ((pages child.page).kind ≡ Leaf) ⊎ ((pages child.page).kind ≡ Inner)
one_of pages zero key level child levels at = inl (fits_parts pages Leaf top at.before child at.behind (subst (Fits pages Leaf top) at.whole levels)).kind_is
one_of pages (suc rest) key level child levels at = inr (fits_parts pages Inner top at.before child at.behind (subst (Fits pages Inner top) at.whole levels.0)).kind_is

module _ (pages : PageMap) (height key : ℕ) (tree : IsTree pages height) where
  -- one level down
  pub goes_on : (depth number : ℕ) → Reached pages height key depth number → (pages number).kind ≡ Inner → Reached pages height key (depth + 1) (child_at key (pages number).children).page
  goes_on depth number r kind =
      let kind_is : (pages r.child.page).kind ≡ Inner = subst (λ (n : ℕ). (pages n).kind ≡ Inner) r.number_is kind in
      let less = inner_here pages r.rest key r.level r.child r.levels r.at kind_is in
      let levels : Levels pages (suc less.0) r.level = subst (λ (h : ℕ). Levels pages h r.level) less.1 r.levels in
      record {
        rest = less.0;
        level = below pages r.level;
        child = child_at key (pages r.child.page).children;
        height_is = omega (arith, r.height_is, less.1);
        number_is = ap (λ (n : ℕ). (child_at key (pages n).children).page) r.number_is;
        range = below_in_range pages tree.sound top r.level r.range levels.0;
        levels = levels.1;
        at = goes_down pages tree.sound key top r.level r.child r.range levels.0 r.at;
        leaf = r.leaf ∙ ap (λ (h : ℕ). leaf_at pages h key r.child) less.1;
      }

  -- the end
  pub stops : (depth number : ℕ) → Reached pages height key depth number → (pages number).kind ≡ Leaf → number ≡ (leaf_at pages height key root).page
  stops depth number r kind =
      let kind_is : (pages r.child.page).kind ≡ Leaf = subst (λ (n : ℕ). (pages n).kind ≡ Leaf) r.number_is kind in
      let none = leaf_here pages r.rest key r.level r.child r.levels r.at kind_is in
      r.number_is ∙ sym (ap (λ (c : Child). c.page) (r.leaf ∙ ap (λ (h : ℕ). leaf_at pages h key r.child) none))

  pub ends_at : (depth number : ℕ) → Reached pages height key depth number → (pages number).kind ≡ Leaf → height ≡ depth
  ends_at depth number r kind =
      let kind_is : (pages r.child.page).kind ≡ Leaf = subst (λ (n : ℕ). (pages n).kind ≡ Leaf) r.number_is kind in
      omega (arith, r.height_is, leaf_here pages r.rest key r.level r.child r.levels r.at kind_is)

  pub not_lost : (depth number : ℕ) → Reached pages height key depth number → (pages number).kind ≢ Leaf → (pages number).kind ≢ Inner → ⊥
  not_lost depth number r leaf inner = elim (one_of pages r.rest key r.level r.child r.levels r.at) [
    | inl kind ↦ leaf (subst (λ (n : ℕ). (pages n).kind ≡ Leaf) (sym r.number_is) kind)
    | inr kind ↦ inner (subst (λ (n : ℕ). (pages n).kind ≡ Inner) (sym r.number_is) kind)
  ]

  pub not_deep : (number : ℕ) → Reached pages height key 3 number → ⊥
  not_deep number r = omega (arith, height_most pages height tree, r.height_is)

-- the page that was found
pub found_page : (pages : PageMap) (height key : ℕ) (found : Option Path) (path : Path) → found ≡ Some path → found ≡ Some (path_on pages height key) → (path.leaf.number ≡ (leaf_at pages height key root).page) × (path.leaf.page ≡ leaf_for pages height key)
found_page pages height key found path is e =
    let same : path ≡ path_on pages height key = cc in
    (ap (λ (p : Path). p.leaf.number) same, ap (λ (p : Path). p.leaf.page) same)

-- and was handed out
pub found_handed : (given : Handed) (pages : PageMap) (height key : ℕ) (found : Option Path) (path : Path) → found ≡ Some path → found ≡ Some (path_on pages height key) → IfSome found (IsPathAt given key) → IsLeafRead given pages height key
found_handed given pages height key found path is e h =
    let same = found_page pages height key found path is e in
    let leaf = (subst (λ (f : Option Path). IfSome f (IsPathAt given key)) is h).leaf in
    ap given (sym same.0) ∙ leaf.handed ∙ ap (λ (p : PageView). Some p) same.1

-- the rows of the leaf from a key on are all rows up to its high fence
front_none : (k low mid high : ℕ) (rows : List Row) → Rises (λ row. row.key) low mid rows → mid ≤ k → filter (λ row. nat_le k row.key && nat_lt row.key high) rows ≡ []
front_none k low mid high [] r le = refl
front_none k low mid high (row ∷ rows) r le = grind (arith, nat_tests, r.1, front_none k (row.key + 1) mid high rows r.2 le)

middle_all : (k low high : ℕ) (rows : List Row) → Rises (λ row. row.key) low high rows → filter (λ row. nat_le k row.key && nat_lt row.key high) rows ≡ rows_above k rows
middle_all k low high [] r = refl
middle_all k low high (row ∷ rows) r = grind (arith, nat_tests, r.1, middle_all k (row.key + 1) high rows r.2)

back_none : (k low high end : ℕ) (rows : List Row) → Rises (λ row. row.key) low end rows → high ≤ low → filter (λ row. nat_le k row.key && nat_lt row.key high) rows ≡ []
back_none k low high end [] r le = refl
back_none k low high end (row ∷ rows) r le = grind (arith, nat_tests, r.0, back_none k (row.key + 1) high end rows r.2 (omega (arith, r.0)))

pub are_leaf_rows : (pages : PageMap) (height low : ℕ) → IsTree pages height → low < top → AreLeafRows pages height low (record { rows = rows_above low (leaf_for pages height low).rows; next = (leaf_for pages height low).high })
are_leaf_rows pages height low tree lt =
    let number = (leaf_at pages height low root).page in
    let found = tree_found pages height low tree lt in
    let place = leaf_place [] pages height number (with_none pages height tree) found.range found.kind in
    let facts = leaf_facts (pages number) (tree.sound number found.range) found.kind in
    let between : Row → Bool = λ row. nat_le low row.key && nat_lt row.key (pages number).high in
    let parts : filter between (rows_under pages place.before ++ ((pages number).rows ++ rows_under pages place.behind)) ≡ rows_above low (pages number).rows =
    filter-append between (rows_under pages place.before) ((pages number).rows ++ rows_under pages place.behind)
    ∙ ap (λ (xs : List Row). filter between (rows_under pages place.before) ++ xs) (filter-append between (pages number).rows (rows_under pages place.behind))
    ∙ rw (
      front_none low (low_of place.before place.child.low) (pages number).low (pages number).high (rows_under pages place.before) place.front found.from,
      middle_all low (pages number).low (pages number).high (pages number).rows facts.rises,
      back_none low (low_of place.behind top) (pages number).high top (rows_under pages place.behind) place.back (omega (arith, place.next)),
      append-nil (rows_above low (pages number).rows),
    ) refl in
    record {
      rows = refl;
      next = refl;
      above = found.until;
      most = facts.high_most;
      all = sym parts ∙ ap (filter between) (sym place.rows);
    }

pub handed_path : (given : Handed) (key : ℕ) (found : Option Path) (path : Path) → found ≡ Some path → IfSome found (IsPathAt given key) → IsPathAt given key path
handed_path given key found path is h = subst (λ (f : Option Path). IfSome f (IsPathAt given key)) is h

-- the page above was handed out, and stays so
pub parent_kept : (old new : Handed) (key below : ℕ) (above : Option Stop) → ((n : ℕ) (page : PageView) → old n ≡ Some page → new n ≡ Some page) → IfSome above (IsParentAt old key below) → IfSome above (IsParentAt new key below)
parent_kept old new key below None kept h = tt
parent_kept old new key below (Some stop) kept h = record { range = h.range; handed = kept stop.number stop.page h.handed; page = h.page; kind = h.kind; child = h.child }

pub parent_page : (given : Handed) (pages : PageMap) (key below : ℕ) (above : Option Stop) → Extends pages given → IfSome above (IsParentAt given key below) → IfSome above (λ stop. pages stop.number ≡ stop.page)
parent_page given pages key below None e h = tt
parent_page given pages key below (Some stop) e h = e stop.number stop.page h.handed

pub same_path : (found : Option Path) (path other : Path) → found ≡ Some path → found ≡ Some other → path ≡ other
same_path found path other a b = cc

-- the search, one level further
pub leaf_at-more : (pages : PageMap) (depth key : ℕ) (child : Child) → leaf_at pages (suc depth) key child ≡ child_at key (pages (leaf_at pages depth key child).page).children
leaf_at-more pages zero key child = refl
leaf_at-more pages (suc depth) key child = leaf_at-more pages depth key (child_at key (pages child.page).children)

-- above the leaf a search is at an inner page
pub inner_on_path : (pages : PageMap) (height key depth number : ℕ) → Reached pages height key depth number → depth < height → (pages number).kind ≡ Inner
inner_on_path pages height key depth number r lt = elim (one_of pages r.rest key r.level r.child r.levels r.at) [
  | inl leaf ↦ absurd (omega (arith, lt, r.height_is, leaf_here pages r.rest key r.level r.child r.levels r.at leaf))
  | inr inner ↦ ap (λ (n : ℕ). (pages n).kind) r.number_is ∙ inner
]

-- ---- no page on a path is page 0

any_children : (page : PageView) → IsPage page → AllByRecursion IsChild page.children
any_children page h = by_kind page.kind h.content
  where
    by_kind : (kind : Kind) → HasContent kind page → AllByRecursion IsChild page.children
    by_kind Blank c = subst (λ (p : PageView). AllByRecursion IsChild p.children) (sym c) tt
    by_kind Meta c = subst (λ (p : PageView). AllByRecursion IsChild p.children) (sym c.0) tt
    by_kind Leaf c = subst (λ (p : PageView). AllByRecursion IsChild p.children) (sym c.0) tt
    by_kind Inner c = c.2
    by_kind Undo c = subst (λ (p : PageView). AllByRecursion IsChild p.children) (sym c.0) tt

abbrev InTree : ℕ → Type 0
InTree n = (1 ≤ n) × (n < 4096)

child_in : (child : Child) → IsChild child → InTree child.page
child_in child h = let range = child_page_range child.page h.page in (omega (arith, range.0), range.1)

from_in : (key : ℕ) (child : Child) (children : List Child) → InTree child.page → AllByRecursion IsChild children → InTree (child_from key child children).page
from_in key child [] here rest = here
from_in key child (next ∷ children) here rest = by_test (nat_lt key next.low) (from_in key next children (child_in next rest.0) rest.1)
  where
    by_test : (t : Bool) → InTree (child_from key next children).page → InTree (cond t child (child_from key next children)).page
    by_test true h = here
    by_test false h = h

at_in : (key : ℕ) (children : List Child) → AllByRecursion IsChild children → InTree (child_at key children).page
at_in key [] h = (omega arith, omega arith)
at_in key (child ∷ children) h = from_in key child children (child_in child h.0) h.1

pub path_in : (pages : PageMap) (height : ℕ) → IsTree pages height → (depth key : ℕ) → InTree (leaf_at pages depth key root).page
path_in pages height tree zero key = (omega arith, omega arith)
path_in pages height tree (suc depth) key =
    let above = path_in pages height tree depth key in
    subst (λ (c : Child). InTree c.page) (sym (leaf_at-more pages depth key root)) (at_in key (pages (leaf_at pages depth key root).page).children (any_children (pages (leaf_at pages depth key root).page) (tree.sound (leaf_at pages depth key root).page above.1)))

-- so page 0 isn't among the pages that are read for a write
pub not_meta : (pages : PageMap) (height key : ℕ) (undo_page : Option ℕ) → IsTree pages height → IfSome undo_page (λ u. (2 ≤ u) × (u < 4096)) → (asked : List ℕ) → AllByRecursion (IsRead key undo_page pages) asked → uses 0 asked ≡ 0
not_meta pages height key undo_page tree range [] h = refl
not_meta pages height key undo_page tree range (n ∷ asked) h = omega (arith, one_if-other n 0 (other n h.0), not_meta pages height key undo_page tree range asked h.1)
  where
    other : (n : ℕ) → IsRead key undo_page pages n → n ≢ 0
    other n (inl path) = λ e. absurd (omega (arith, e, path.2, (path_in pages height tree path.0 key).0))
    other n (inr is) = λ e. absurd (omega (arith, e, (subst (λ (u : Option ℕ). IfSome u (λ u. (2 ≤ u) × (u < 4096))) is range).0))
