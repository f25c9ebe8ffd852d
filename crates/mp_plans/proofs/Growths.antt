-- A tree grows for a row: in each case it is a tree again, and a leaf takes the row.
use Rattle.mp_plans.specs.Fitting.{IsLeafOf}
use Rattle.mp_cells.specs.Mtrs.{IsChange}
use Rattle.std.proofs.Common.{◌≡◌, ◌≢◌, ℕ, zero, suc, ◌+◌, ◌<◌, ◌≤◌, ◌==◌, ◌||◌, nat_lt, Bool, true, false, cond, List, [], ◌∷◌, ◌++◌, length, take, drop, Some, refl, sym, ap, subst, ◌∙◌, inl, inr, ◌⊎◌, arith}
use Rattle.std.specs.List.{AllByRecursion}
use Rattle.std.proofs.lemmas.Bool.{cases_eq, cases_lt, lt-ltb}
use Rattle.std.proofs.lemmas.Bool.Decides.{nat_tests}
use Rattle.mp_cells.specs.declared.changes.Change.TheVariants.{MakeLeaf, Cut}
use Rattle.mp_cells.specs.declared.kinds.Kind.{Kind}
use Rattle.mp_cells.specs.declared.kinds.Kind.TheVariants.{Blank, Leaf, Inner, Undo}
use Rattle.mp_cells.specs.declared.rows.Row.{Row}
use Rattle.mp_cells.specs.declared.children.Child.{Child}
use Rattle.mp_cells.specs.Children.{IsChild}
use Rattle.mp_cells.specs.PageView.{PageView, IsPage}
use Rattle.mp_cells.specs.Changes.{applied, holds_row}
use Rattle.mp_cells.specs.Trees.{PageMap, top, low_of, uses, one_if}
use Rattle.mp_cells.proofs.KeyOrder.{Rises}
use Rattle.mp_cells.proofs.ChildSpelling.{child_page_range}
use Rattle.mp_cells.specs.Plans.{Plan, after_plan}
use Rattle.mp_plans.specs.Growth.{first_key, leaf_separator, inner_separator, leaf_parts, root_leaf_parts, side, put_child, has_place}
use Rattle.mp_cells.proofs.Uses.{one_if-same, one_if-other}
use Rattle.mp_cells.proofs.Heights.{numbers}
use Rattle.mp_cells.proofs.Spare.{TreeWith, content_of, inner_facts, kind_apart}
use Rattle.mp_cells.proofs.Places.{in_level}
use Rattle.mp_plans.proofs.Reshaping.{Reshapes, reshapes_none}
use Rattle.mp_plans.proofs.SplitTrees.{child_fences}
use Rattle.mp_plans.proofs.Halves.{halves}
use Rattle.mp_plans.proofs.SplitPieces.{split_piece, PartsOf}
use Rattle.mp_plans.proofs.Parts.{leaf_halves, leaf_cut, leaf_left, leaf_right, root_piece, root_fences}

-- what growing leaves: a tree, in which a leaf takes the row of a key
pub record Grown (spare : List ℕ) (plan : Plan) (mid : PageMap) (height key target : ℕ) : Type 0 where
  pub new_height : ℕ
  pub shape : Reshapes spare [] plan mid height new_height
  pub range : target < 4096
  pub kind : (after_plan plan mid target).kind ≡ Leaf
  pub from : (after_plan plan mid target).low ≤ key
  pub until : key < (after_plan plan mid target).high
  pub place : has_place key (after_plan plan mid target) ≡ true
  pub undo : (n : ℕ) → (mid n).kind ≡ Undo → after_plan plan mid n ≡ mid n

pub stays_grown : (mid : PageMap) (height key m : ℕ) → TreeWith [] mid height → m < 4096 → IsLeafOf key (mid m) → has_place key (mid m) ≡ true → Grown [] [] mid height key m
stays_grown mid height key m tree lt leaf place = record { new_height = height; shape = reshapes_none [] mid height tree; range = lt; kind = leaf.kind; from = leaf.from; until = leaf.until; place = place; undo = λ n e. refl }

-- room for one more
few : (key : ℕ) (page : PageView) (n : ℕ) → length page.rows ≡ n → n < 15 → has_place key page ≡ true
few key page n e lt = or_right (holds_row key page) (nat_lt (length page.rows) 15) (lt-ltb (length page.rows) 15 (omega (arith, e)))
  where
    or_right : (a b : Bool) → b ≡ true → (a || b) ≡ true
    or_right true b e = refl
    or_right false b e = e

side_left : (key separator left right : ℕ) → key < separator → side key separator left right ≡ left
side_left key separator left right lt = ap (λ (b : Bool). cond b left right) (lt-ltb key separator lt)

side_right : (key separator left right : ℕ) → separator ≤ key → side key separator left right ≡ right
side_right key separator left right le = let test : nat_lt key separator ≡ false = grind (arith, nat_tests) in ap (λ (b : Bool). cond b left right) test

-- the leaf that takes the row, among the two parts of a leaf
record Takes (new : PageMap) (key target : ℕ) : Type 0 where
  kind : (new target).kind ≡ Leaf
  from : (new target).low ≤ key
  until : key < (new target).high
  place : has_place key (new target) ≡ true

takes_side : (new : PageMap) (key l r separator : ℕ) (left right : PageView) → new l ≡ left → new r ≡ right → left.kind ≡ Leaf → right.kind ≡ Leaf → left.low ≤ key → left.high ≡ separator → right.low ≡ separator → key < right.high → length left.rows ≡ 8 → length right.rows ≡ 7 → Takes new key (side key separator l r)
takes_side new key l r separator left right at_l at_r kind_l kind_r from high_l low_r until count_l count_r = elim (cases_lt key separator) [
  | inl below ↦ subst (Takes new key) (sym (side_left key separator l r below)) (record {
    kind = ap (λ (p : PageView). p.kind) at_l ∙ kind_l;
    from = subst (λ (p : PageView). p.low ≤ key) (sym at_l) from;
    until = subst (λ (p : PageView). key < p.high) (sym at_l) (omega (arith, below, high_l));
    place = subst (λ (p : PageView). has_place key p ≡ true) (sym at_l) (few key left 8 count_l (omega arith));
  })
  | inr above ↦ subst (Takes new key) (sym (side_right key separator l r above)) (record {
    kind = ap (λ (p : PageView). p.kind) at_r ∙ kind_r;
    from = subst (λ (p : PageView). p.low ≤ key) (sym at_r) (omega (arith, above, low_r));
    until = subst (λ (p : PageView). key < p.high) (sym at_r) until;
    place = subst (λ (p : PageView). has_place key p ≡ true) (sym at_r) (few key right 7 count_r (omega arith));
  })
]

side_range : (key separator l r : ℕ) → l < 4096 → r < 4096 → side key separator l r < 4096
side_range key separator l r a b = by_test (nat_lt key separator)
  where
    by_test : (t : Bool) → cond t l r < 4096
    by_test true = a
    by_test false = b

not_undo_page : (pages : PageMap) (n m : ℕ) (kind : Kind) → (pages n).kind ≡ Undo → (pages m).kind ≡ kind → Undo ≢ kind → n ≢ m
not_undo_page pages n m kind a b apart = kind_apart pages n m Undo kind a b apart

-- ---- a leaf under a parent with a place

pub record LeafGrown (spare : List ℕ) (plan : Plan) (mid : PageMap) (height key target m p a : ℕ) : Type 0 where
  pub grown : Grown spare plan mid height key target
  pub same_height : grown.new_height ≡ height

pub leaf_grown : (spare : List ℕ) (mid : PageMap) (height key m p a : ℕ) (page : PageView) → TreeWith spare mid height → mid m ≡ page → m < 4096 → p < 4096 → a < 4096 → IsLeafOf key page → length page.rows ≡ 15
    → ((n : ℕ) → uses n spare ≡ one_if (a == n)) → (mid p).kind ≡ Inner → 1 ≤ uses m (numbers (mid p).children) → length (mid p).children < 124
    → Grown spare (leaf_parts page m a ++ put_child p (leaf_separator page) a ∷ []) mid height key (side key (leaf_separator page) m a)
leaf_grown spare mid height key m p a page tree is range_m range_p range_a leaf full counts inner has room =
    let sound : IsPage page = subst IsPage is (tree.sound m range_m) in
    let parts = leaf_halves page sound leaf.kind full in
    let blank : (mid a).kind ≡ Blank = tree.unused a range_a (omega (arith, counts a, one_if-same a)) in
    let kind : (mid m).kind ≡ Leaf = ap (λ (q : PageView). q.kind) is ∙ leaf.kind in
    let cuts : applied (Cut (leaf_separator page)) (mid m) ≡ Some (leaf_cut page) = ap (applied (Cut (leaf_separator page))) is ∙ parts.cuts in
    let of : PartsOf (mid m) (leaf_cut page) (leaf_right page (mid a)) (leaf_separator page) = subst (λ (q : PageView). PartsOf q (leaf_cut page) (leaf_right page (mid a)) (leaf_separator page)) (sym is) (parts.parts_cut (mid a) (tree.sound a range_a) blank) in
    let piece = split_piece spare [] mid height m p a (leaf_separator page) (MakeLeaf (leaf_separator page) page.high (drop 8 page.rows)) (leaf_cut page) (leaf_right page (mid a)) parts.right_change tree (inl kind) range_m range_p range_a (λ n. omega (arith, counts n)) inner has room (parts.makes_right (mid a) blank) cuts of in
    let new = after_plan (leaf_parts page m a ++ put_child p (leaf_separator page) a ∷ []) mid in
    let takes = takes_side new key m a (leaf_separator page) (leaf_cut page) (leaf_right page (mid a)) piece.at_m piece.at_r leaf.kind refl leaf.from refl refl leaf.until (omega (arith, ap (λ (xs : List Row). length xs) parts.left_rows, parts.left_count)) parts.right_count in
    record {
      new_height = height;
      shape = piece.shape;
      range = side_range key (leaf_separator page) m a range_m range_a;
      kind = takes.kind;
      from = takes.from;
      until = takes.until;
      place = takes.place;
      undo = λ n e. piece.others n (not_undo_page mid n a Blank e blank (λ (x : Undo ≡ Blank). absurd cc)) (not_undo_page mid n m Leaf e kind (λ (x : Undo ≡ Leaf). absurd cc)) (not_undo_page mid n p Inner e inner (λ (x : Undo ≡ Inner). absurd cc));
    }

-- ---- the root is a full leaf

pub new_root_grown : (spare : List ℕ) (mid : PageMap) (height key a b : ℕ) → TreeWith spare mid height → a < 4096 → b < 4096 → a ≢ b → IsLeafOf key (mid 1) → length (mid 1).rows ≡ 15
    → ((n : ℕ) → uses n spare ≡ one_if (a == n) + one_if (b == n))
    → Grown spare (root_leaf_parts (mid 1) a b) mid height key (side key (leaf_separator (mid 1)) a b)
new_root_grown spare mid height key a b tree range_a range_b a_b leaf full counts =
    let page = mid 1 in
    let sep = leaf_separator page in
    let parts = leaf_halves page (tree.sound 1 (omega arith)) leaf.kind full in
    let fences = root_fences spare mid height tree in
    let blank_a : (mid a).kind ≡ Blank = tree.unused a range_a (omega (arith, counts a, one_if-same a)) in
    let blank_b : (mid b).kind ≡ Blank = tree.unused b range_b (omega (arith, counts b, one_if-same b)) in
    let ok_a : IsChange (MakeLeaf 0 sep (take 8 page.rows)) = subst (λ (low : ℕ). IsChange (MakeLeaf low sep (take 8 page.rows))) fences.0 parts.left_change in
    let ok_b : IsChange (MakeLeaf sep top (drop 8 page.rows)) = subst (λ (high : ℕ). IsChange (MakeLeaf sep high (drop 8 page.rows))) fences.1 parts.right_change in
    let makes_a : applied (MakeLeaf 0 sep (take 8 page.rows)) (mid a) ≡ Some (leaf_left page (mid a)) = ap (λ (low : ℕ). applied (MakeLeaf low sep (take 8 page.rows)) (mid a)) (sym fences.0) ∙ parts.makes_left (mid a) blank_a in
    let makes_b : applied (MakeLeaf sep top (drop 8 page.rows)) (mid b) ≡ Some (leaf_right page (mid b)) = ap (λ (high : ℕ). applied (MakeLeaf sep high (drop 8 page.rows)) (mid b)) (sym fences.1) ∙ parts.makes_right (mid b) blank_b in
    let piece = root_piece spare [] mid height a b sep (MakeLeaf 0 sep (take 8 page.rows)) (MakeLeaf sep top (drop 8 page.rows)) (leaf_left page (mid a)) (leaf_right page (mid b)) ok_a ok_b tree range_a range_b a_b (λ n. omega (arith, counts n)) makes_a makes_b (parts.parts_made (mid a) (mid b) (tree.sound a range_a) (tree.sound b range_b) blank_a blank_b) in
    let new = after_plan (root_leaf_parts page a b) mid in
    let takes = takes_side new key a b sep (leaf_left page (mid a)) (leaf_right page (mid b)) piece.at_l piece.at_r refl refl leaf.from refl refl leaf.until parts.left_count parts.right_count in
    record {
      new_height = suc height;
      shape = piece.shape;
      range = side_range key sep a b range_a range_b;
      kind = takes.kind;
      from = takes.from;
      until = takes.until;
      place = takes.place;
      undo = λ n e. piece.others n (not_undo_page mid n a Blank e blank_a (λ (x : Undo ≡ Blank). absurd cc)) (not_undo_page mid n b Blank e blank_b (λ (x : Undo ≡ Blank). absurd cc)) (not_undo_page mid n 1 Leaf e leaf.kind (λ (x : Undo ≡ Leaf). absurd cc));
    }

-- ---- a child stays under one of the parts of its parent

first_most : (low high n : ℕ) (cells : List Child) → Rises (λ c. c.low) low high cells → n < length cells → low_of cells high ≤ first_key (λ c. c.low) (drop n cells)
first_most low high n [] r lt = absurd (omega arith)
first_most low high zero (c ∷ cells) r lt = omega arith
first_most low high (suc n) (c ∷ cells) r lt = let rest = halves (λ (x : Child). x.low) (c.low + 1) high n cells r.2 (omega arith) in omega (arith, rest.from)

first_least : (low high : ℕ) (before : List Child) (child : Child) (behind : List Child) → Rises (λ c. c.low) low high (before ++ child ∷ behind) → first_key (λ c. c.low) (before ++ child ∷ behind) ≤ child.low
first_least low high [] child behind r = omega arith
first_least low high (b ∷ before) child behind r = omega (arith, lowest (b.low + 1) high before child behind r.2)
  where
    lowest : (low high : ℕ) (before : List Child) (child : Child) (behind : List Child) → Rises (λ c. c.low) low high (before ++ child ∷ behind) → low ≤ child.low
    lowest low high [] child behind r = r.0
    lowest low high (b ∷ before) child behind r = omega (arith, r.0, lowest (b.low + 1) high before child behind r.2)

used_in : (m : ℕ) (before : List Child) (child : Child) (behind : List Child) → child.page ≡ m → 1 ≤ uses m (numbers (before ++ child ∷ behind))
used_in m [] child behind e = omega (arith, ap (λ (k : ℕ). one_if (k == m)) e, one_if-same m)
used_in m (b ∷ before) child behind e = omega (arith, used_in m before child behind e)

pub in_part : (m low high n : ℕ) (before : List Child) (child : Child) (behind : List Child) → Rises (λ c. c.low) low high (before ++ child ∷ behind) → n < length (before ++ child ∷ behind) → child.page ≡ m
    → ((1 ≤ uses m (numbers (take n (before ++ child ∷ behind)))) × (low_of behind high ≤ first_key (λ c. c.low) (drop n (before ++ child ∷ behind)))) ⊎ ((1 ≤ uses m (numbers (drop n (before ++ child ∷ behind)))) × (first_key (λ c. c.low) (drop n (before ++ child ∷ behind)) ≤ child.low))
in_part m low high zero before child behind r lt e = inr (used_in m before child behind e, first_least low high before child behind r)
in_part m low high (suc n) [] child behind r lt e = inl (omega (arith, ap (λ (k : ℕ). one_if (k == m)) e, one_if-same m), first_most (child.low + 1) high n behind r.2 (omega arith))
in_part m low high (suc n) (b ∷ before) child behind r lt e = elim (in_part m (b.low + 1) high n before child behind r.2 (omega arith) e) [
  | inl l ↦ inl (omega (arith, l.0), l.1)
  | inr h ↦ inr (h.0, h.1)
]

-- so a leaf that is split stands under the part on its separator's side
pub stays_under : (spare : List ℕ) (pages : PageMap) (height m p separator l r : ℕ) (tree : TreeWith spare pages height) → p < 4096 → (pages p).kind ≡ Inner → length (pages p).children ≡ 124 → 1 ≤ uses m (numbers (pages p).children)
    → (pages m).low < separator → separator < (pages m).high → (P : ℕ → Type 0) → (1 ≤ uses m (numbers (take 62 (pages p).children)) → P l) → (1 ≤ uses m (numbers (drop 62 (pages p).children)) → P r) → P (side separator (inner_separator (pages p)) l r)
stays_under spare pages height m p separator l r tree range inner full has above below P left right =
    let facts = inner_facts (pages p) (tree.sound p range) inner in
    let at = in_level m (pages p).children has in
    let fences = child_fences spare pages height tree p range at.before at.child at.behind inner at.whole in
    let low : (pages m).low ≡ at.child.low = ap (λ (k : ℕ). (pages k).low) (sym at.page_is) ∙ fences.low in
    let high : (pages m).high ≡ low_of at.behind (pages p).high = ap (λ (k : ℕ). (pages k).high) (sym at.page_is) ∙ fences.high in
    let rises : Rises (λ c. c.low) (pages p).low (pages p).high (at.before ++ at.child ∷ at.behind) = subst (Rises (λ (c : Child). c.low) (pages p).low (pages p).high) at.whole facts.rises in
    let first : first_key (λ c. c.low) (drop 62 (at.before ++ at.child ∷ at.behind)) ≡ inner_separator (pages p) = ap (λ (xs : List Child). first_key (λ c. c.low) (drop 62 xs)) (sym at.whole) in
    elim (in_part m (pages p).low (pages p).high 62 at.before at.child at.behind rises (omega (arith, ap (λ (xs : List Child). length xs) at.whole, full)) at.page_is) [
      | inl h ↦ subst P (sym (side_left separator (inner_separator (pages p)) l r (omega (arith, h.1, first, high, below)))) (left (subst (λ (xs : List Child). 1 ≤ uses m (numbers (take 62 xs))) (sym at.whole) h.0))
      | inr h ↦ subst P (sym (side_right separator (inner_separator (pages p)) l r (omega (arith, h.1, first, low, above)))) (right (subst (λ (xs : List Child). 1 ≤ uses m (numbers (drop 62 xs))) (sym at.whole) h.0))
    ]

-- a child's page isn't the root
pub child_not_root : (page : PageView) (m : ℕ) → IsPage page → page.kind ≡ Inner → 1 ≤ uses m (numbers page.children) → 2 ≤ m
child_not_root page m sound kind has = in_all page.children (content_of Inner page sound kind).2 has
  where
    in_all : (children : List Child) → AllByRecursion IsChild children → 1 ≤ uses m (numbers children) → 2 ≤ m
    in_all [] h u = absurd (omega (arith, u))
    in_all (child ∷ children) h u = elim (cases_eq child.page m) [
      | inl same ↦ omega (arith, same, (child_page_range child.page h.0.page).0)
      | inr apart ↦ in_all children h.1 (omega (arith, u, one_if-other child.page m apart))
    ]
