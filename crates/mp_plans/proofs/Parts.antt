-- The two parts of a full leaf and of a full inner page, and the part of a plan that splits the root.
use Rattle.mp_cells.specs.Mtrs.{IsChange}
use Rattle.std.proofs.Common.{◌≡◌, ◌≢◌, ℕ, zero, suc, ◌+◌, ◌^◌, ◌<◌, ◌≤◌, ◌==◌, ◌&&◌, ◌||◌, Bool, true, false, cond, List, [], ◌∷◌, ◌++◌, length, take, drop, Some, None, refl, sym, ap, subst, ◌∙◌, inl, inr, arith}
use Rattle.std.specs.List.{AllByRecursion}
use Rattle.std.proofs.lemmas.Bool.{eq-eqb, and_from, lt-ltb, le-leb}
use Rattle.std.proofs.lemmas.List.{length-drop, length-take-le, take-append-drop}
use Rattle.mp_cells.specs.declared.changes.Change.{Change}
use Rattle.mp_cells.specs.declared.changes.Change.TheVariants.{MakeLeaf, MakeInner, Cut}
use Rattle.mp_cells.specs.declared.kinds.Kind.TheVariants.{Blank, Meta, Leaf, Inner}
use Rattle.mp_cells.specs.declared.rows.Row.{Row}
use Rattle.mp_cells.specs.declared.children.Child.{Child}
use Rattle.mp_cells.specs.Rows.{IsRow}
use Rattle.mp_cells.specs.Children.{IsChild, is_child_page}
use Rattle.mp_cells.specs.PageView.{PageView, IsPage, leaf_page, inner_page, is_leaf, is_inner, begins_at, is_of}
use Rattle.mp_cells.specs.Keys.{cells_below}
use Rattle.mp_cells.specs.Changes.{applied, can_be_inner, is_tree_page}
use Rattle.mp_cells.specs.Trees.{PageMap, top, tree_pages, uses, one_if}
use Rattle.mp_cells.proofs.KeyOrder.{Rises, test-from_Rises}
use Rattle.mp_cells.proofs.AppliedPages.{applied-page}
use Rattle.mp_cells.specs.Plans.{Plan, after_plan}
use Rattle.mp_plans.specs.Growth.{first_key, leaf_separator, inner_separator, two_children}
use Rattle.mp_cells.proofs.Uses.{one_if-same}
use Rattle.mp_cells.proofs.Spare.{TreeWith, content_of, leaf_facts, inner_facts, kind_apart, spare_apart}
use Rattle.mp_plans.proofs.Reshaping.{Reshapes}
use Rattle.mp_plans.proofs.Steps.{kind_test}
use Rattle.mp_plans.proofs.Halves.{halves, halves_above}
use Rattle.mp_plans.proofs.SplitTrees.{IsNode, node_once, IsFilled}
use Rattle.mp_plans.proofs.RootSplits.{RootFits, root_tree}
use Rattle.mp_plans.proofs.Pieces.{three}
use Rattle.mp_plans.proofs.SplitPieces.{PartsOf, all_drop, all_take}

-- ---- a full leaf

-- the pages that its parts become, over blank ones
abbrev pub leaf_right : PageView → PageView → PageView
leaf_right page blank = leaf_page blank.llsn (leaf_separator page) page.high (drop 8 page.rows)

abbrev pub leaf_cut : PageView → PageView
leaf_cut page = record page { high = leaf_separator page; rows = cells_below (λ r. r.key) (leaf_separator page) page.rows; children = cells_below (λ c. c.low) (leaf_separator page) page.children }

abbrev pub leaf_left : PageView → PageView → PageView
leaf_left page blank = leaf_page blank.llsn page.low (leaf_separator page) (take 8 page.rows)

pub record LeafParts (page : PageView) : Type 0 where
  pub above : page.low < leaf_separator page
  pub below : leaf_separator page < page.high
  pub left_rows : cells_below (λ r. r.key) (leaf_separator page) page.rows ≡ take 8 page.rows
  pub left_count : length (take 8 page.rows) ≡ 8
  pub right_count : length (drop 8 page.rows) ≡ 7
  pub left_change : IsChange (MakeLeaf page.low (leaf_separator page) (take 8 page.rows))
  pub right_change : IsChange (MakeLeaf (leaf_separator page) page.high (drop 8 page.rows))
  pub cuts : applied (Cut (leaf_separator page)) page ≡ Some (leaf_cut page)
  pub makes_left : (blank : PageView) → blank.kind ≡ Blank → applied (MakeLeaf page.low (leaf_separator page) (take 8 page.rows)) blank ≡ Some (leaf_left page blank)
  pub makes_right : (blank : PageView) → blank.kind ≡ Blank → applied (MakeLeaf (leaf_separator page) page.high (drop 8 page.rows)) blank ≡ Some (leaf_right page blank)
  pub parts_cut : (blank : PageView) → IsPage blank → blank.kind ≡ Blank → PartsOf page (leaf_cut page) (leaf_right page blank) (leaf_separator page)
  pub parts_made : (a b : PageView) → IsPage a → IsPage b → a.kind ≡ Blank → b.kind ≡ Blank → PartsOf page (leaf_left page a) (leaf_right page b) (leaf_separator page)

leaf_filled : (page : PageView) → page.kind ≡ Leaf → 7 ≤ length page.rows → IsFilled page
leaf_filled page kind many = record { leaf = λ e. many; inner = λ e. let both : Leaf ≡ Inner = sym kind ∙ e in absurd cc }

inner_filled : (page : PageView) → page.kind ≡ Inner → 62 ≤ length page.children → IsFilled page
inner_filled page kind many = record { leaf = λ e. let both : Inner ≡ Leaf = sym kind ∙ e in absurd cc; inner = λ e. many }

pub leaf_halves : (page : PageView) → IsPage page → page.kind ≡ Leaf → length page.rows ≡ 15 → LeafParts page
leaf_halves page h kind full =
    let content = content_of Leaf page h kind in
    let facts = leaf_facts page h kind in
    let sep = leaf_separator page in
    let cut = halves (λ (r : Row). r.key) page.low page.high 8 page.rows facts.rises (omega (arith, full)) in
    let above : page.low < sep = halves_above (λ (r : Row). r.key) page.low page.high 8 page.rows facts.rises (omega (arith, full)) (omega arith) in
    let below : sep < page.high = cut.until in
    let left_count : length (take 8 page.rows) ≡ 8 = length-take-le 8 page.rows (omega (arith, full)) in
    let right_count : length (drop 8 page.rows) ≡ 7 = omega (arith, length-drop 8 page.rows, full) in
    let no_children : page.children ≡ [] = ap (λ (p : PageView). p.children) content.0 in
    let cuts : applied (Cut sep) page ≡ Some (leaf_cut page) = ap (λ (b : Bool). cond b (Some (leaf_cut page)) None)
    (and_from _ _ (and_from _ _ (ap (λ (b : Bool). b || is_of Inner page) (kind_test Leaf page kind)) (lt-ltb page.low sep above)) (lt-ltb sep page.high below)) in
    let left_test : is_leaf page.low sep (take 8 page.rows) ≡ true = and_from _ _ (and_from _ _ (and_from _ _ (lt-ltb page.low sep above) (le-leb sep (2 ^ 32) (omega (arith, below, facts.high_most)))) (le-leb _ 15 (omega (arith, left_count)))) (test-from_Rises (λ (r : Row). r.key) page.low sep (take 8 page.rows) cut.left) in
    let right_test : is_leaf sep page.high (drop 8 page.rows) ≡ true = and_from _ _ (and_from _ _ (and_from _ _ (lt-ltb sep page.high below) (le-leb page.high (2 ^ 32) facts.high_most)) (le-leb _ 15 (omega (arith, right_count)))) (test-from_Rises (λ (r : Row). r.key) sep page.high (drop 8 page.rows) cut.right) in
    let makes_left : (blank : PageView) → blank.kind ≡ Blank → applied (MakeLeaf page.low sep (take 8 page.rows)) blank ≡ Some (leaf_left page blank) = λ blank e. ap (λ (b : Bool). cond b (Some (leaf_left page blank)) None) (and_from _ _ (kind_test Blank blank e) left_test) in
    let makes_right : (blank : PageView) → blank.kind ≡ Blank → applied (MakeLeaf sep page.high (drop 8 page.rows)) blank ≡ Some (leaf_right page blank) = λ blank e. ap (λ (b : Bool). cond b (Some (leaf_right page blank)) None) (and_from _ _ (kind_test Blank blank e) right_test) in
    record {
      above = above;
      below = below;
      left_rows = cut.below;
      left_count = left_count;
      right_count = right_count;
      left_change = (left_test, all_take IsRow 8 page.rows content.2);
      right_change = (right_test, all_drop IsRow 8 page.rows content.2);
      cuts = cuts;
      makes_left = makes_left;
      makes_right = makes_right;
      parts_cut = λ blank b e. record {
        left_kind = refl;
        left_low = refl;
        left_high = refl;
        right_kind = sym kind;
        right_low = refl;
        right_high = refl;
        rows = ap (λ (xs : List Row). xs ++ drop 8 page.rows) cut.below ∙ take-append-drop 8 page.rows;
        children = ap (λ (xs : List Child). cells_below (λ c. c.low) sep xs ++ []) no_children ∙ sym no_children;
        above = above;
        below = below;
        sound_l = applied-page (Cut sep) page (leaf_cut page) h tt cuts;
        sound_r = applied-page (MakeLeaf sep page.high (drop 8 page.rows)) blank (leaf_right page blank) b (all_drop IsRow 8 page.rows content.2) (makes_right blank e);
        filled_l = leaf_filled (leaf_cut page) kind (omega (arith, ap (λ (xs : List Row). length xs) cut.below, left_count));
        filled_r = leaf_filled (leaf_right page blank) refl (omega (arith, right_count));
      };
      parts_made = λ a b ha hb ea eb. record {
        left_kind = sym kind;
        left_low = refl;
        left_high = refl;
        right_kind = sym kind;
        right_low = refl;
        right_high = refl;
        rows = take-append-drop 8 page.rows;
        children = sym no_children;
        above = above;
        below = below;
        sound_l = applied-page (MakeLeaf page.low sep (take 8 page.rows)) a (leaf_left page a) ha (all_take IsRow 8 page.rows content.2) (makes_left a ea);
        sound_r = applied-page (MakeLeaf sep page.high (drop 8 page.rows)) b (leaf_right page b) hb (all_drop IsRow 8 page.rows content.2) (makes_right b eb);
        filled_l = leaf_filled (leaf_left page a) refl (omega (arith, left_count));
        filled_r = leaf_filled (leaf_right page b) refl (omega (arith, right_count));
      };
    }

-- ---- a full inner page

abbrev pub inner_right : PageView → PageView → PageView
inner_right page blank = inner_page blank.llsn (inner_separator page) page.high (drop 62 page.children)

abbrev pub inner_cut : PageView → PageView
inner_cut page = record page { high = inner_separator page; rows = cells_below (λ r. r.key) (inner_separator page) page.rows; children = cells_below (λ c. c.low) (inner_separator page) page.children }

abbrev pub inner_left : PageView → PageView → PageView
inner_left page blank = inner_page blank.llsn page.low (inner_separator page) (take 62 page.children)

pub record InnerParts (page : PageView) : Type 0 where
  pub above : page.low < inner_separator page
  pub below : inner_separator page < page.high
  pub left_children : cells_below (λ c. c.low) (inner_separator page) page.children ≡ take 62 page.children
  pub left_count : length (take 62 page.children) ≡ 62
  pub right_count : length (drop 62 page.children) ≡ 62
  pub left_rises : Rises (λ c. c.low) page.low (inner_separator page) (take 62 page.children)
  pub right_rises : Rises (λ c. c.low) (inner_separator page) page.high (drop 62 page.children)
  pub left_change : IsChange (MakeInner page.low (inner_separator page) (take 62 page.children))
  pub right_change : IsChange (MakeInner (inner_separator page) page.high (drop 62 page.children))
  pub cuts : applied (Cut (inner_separator page)) page ≡ Some (inner_cut page)
  pub makes_left : (blank : PageView) → blank.kind ≡ Blank → applied (MakeInner page.low (inner_separator page) (take 62 page.children)) blank ≡ Some (inner_left page blank)
  pub makes_right : (blank : PageView) → blank.kind ≡ Blank → applied (MakeInner (inner_separator page) page.high (drop 62 page.children)) blank ≡ Some (inner_right page blank)
  pub parts_cut : (blank : PageView) → IsPage blank → blank.kind ≡ Blank → PartsOf page (inner_cut page) (inner_right page blank) (inner_separator page)
  pub parts_made : (a b : PageView) → IsPage a → IsPage b → a.kind ≡ Blank → b.kind ≡ Blank → PartsOf page (inner_left page a) (inner_right page b) (inner_separator page)

begins_first : (children : List Child) → 0 < length children → begins_at (first_key (λ c. c.low) children) children ≡ true
begins_first [] lt = absurd (omega arith)
begins_first (child ∷ children) lt = eq-eqb child.low child.low refl

begins_take : (low n : ℕ) (children : List Child) → begins_at low children ≡ true → 0 < n → begins_at low (take n children) ≡ true
begins_take low zero children h lt = absurd (omega arith)
begins_take low (suc n) [] h lt = h
begins_take low (suc n) (child ∷ children) h lt = h

pub inner_halves : (page : PageView) → IsPage page → page.kind ≡ Inner → length page.children ≡ 124 → InnerParts page
inner_halves page h kind full =
    let content = content_of Inner page h kind in
    let facts = inner_facts page h kind in
    let sep = inner_separator page in
    let cut = halves (λ (c : Child). c.low) page.low page.high 62 page.children facts.rises (omega (arith, full)) in
    let above : page.low < sep = halves_above (λ (c : Child). c.low) page.low page.high 62 page.children facts.rises (omega (arith, full)) (omega arith) in
    let below : sep < page.high = cut.until in
    let left_count : length (take 62 page.children) ≡ 62 = length-take-le 62 page.children (omega (arith, full)) in
    let right_count : length (drop 62 page.children) ≡ 62 = omega (arith, length-drop 62 page.children, full) in
    let no_rows : page.rows ≡ [] = ap (λ (p : PageView). p.rows) content.0 in
    let either : (a b : Bool) → b ≡ true → (a || b) ≡ true = or_right in
    let cuts : applied (Cut sep) page ≡ Some (inner_cut page) = ap (λ (b : Bool). cond b (Some (inner_cut page)) None)
    (and_from _ _ (and_from _ _ (either (is_of Leaf page) (is_of Inner page) (kind_test Inner page kind)) (lt-ltb page.low sep above)) (lt-ltb sep page.high below)) in
    let left_test : is_inner page.low sep (take 62 page.children) ≡ true = and_from _ _ (and_from _ _ (and_from _ _ (and_from _ _ (lt-ltb page.low sep above) (le-leb sep (2 ^ 32) (omega (arith, below, facts.high_most)))) (begins_take page.low 62 page.children facts.first (omega arith))) (le-leb _ 124 (omega (arith, left_count)))) (test-from_Rises (λ (c : Child). c.low) page.low sep (take 62 page.children) cut.left) in
    let right_test : is_inner sep page.high (drop 62 page.children) ≡ true = and_from _ _ (and_from _ _ (and_from _ _ (and_from _ _ (lt-ltb sep page.high below) (le-leb page.high (2 ^ 32) facts.high_most)) (begins_first (drop 62 page.children) (omega (arith, right_count)))) (le-leb _ 124 (omega (arith, right_count)))) (test-from_Rises (λ (c : Child). c.low) sep page.high (drop 62 page.children) cut.right) in
    let makes_left : (blank : PageView) → blank.kind ≡ Blank → applied (MakeInner page.low sep (take 62 page.children)) blank ≡ Some (inner_left page blank) = λ blank e. ap (λ (b : Bool). cond b (Some (inner_left page blank)) None) (and_from _ _ (ap (λ (b : Bool). b || (is_tree_page blank && blank.low == page.low && blank.high == sep)) (kind_test Blank blank e)) left_test) in
    let makes_right : (blank : PageView) → blank.kind ≡ Blank → applied (MakeInner sep page.high (drop 62 page.children)) blank ≡ Some (inner_right page blank) = λ blank e. ap (λ (b : Bool). cond b (Some (inner_right page blank)) None) (and_from _ _ (ap (λ (b : Bool). b || (is_tree_page blank && blank.low == sep && blank.high == page.high)) (kind_test Blank blank e)) right_test) in
    record {
      above = above;
      below = below;
      left_children = cut.below;
      left_count = left_count;
      right_count = right_count;
      left_change = (left_test, all_take IsChild 62 page.children content.2);
      right_change = (right_test, all_drop IsChild 62 page.children content.2);
      left_rises = cut.left;
      right_rises = cut.right;
      cuts = cuts;
      makes_left = makes_left;
      makes_right = makes_right;
      parts_cut = λ blank b e. record {
        left_kind = refl;
        left_low = refl;
        left_high = refl;
        right_kind = sym kind;
        right_low = refl;
        right_high = refl;
        rows = ap (λ (xs : List Row). cells_below (λ r. r.key) sep xs ++ []) no_rows ∙ sym no_rows;
        children = ap (λ (xs : List Child). xs ++ drop 62 page.children) cut.below ∙ take-append-drop 62 page.children;
        above = above;
        below = below;
        sound_l = applied-page (Cut sep) page (inner_cut page) h tt cuts;
        sound_r = applied-page (MakeInner sep page.high (drop 62 page.children)) blank (inner_right page blank) b (all_drop IsChild 62 page.children content.2) (makes_right blank e);
        filled_l = inner_filled (inner_cut page) kind (omega (arith, ap (λ (xs : List Child). length xs) cut.below, left_count));
        filled_r = inner_filled (inner_right page blank) refl (omega (arith, right_count));
      };
      parts_made = λ a b ha hb ea eb. record {
        left_kind = sym kind;
        left_low = refl;
        left_high = refl;
        right_kind = sym kind;
        right_low = refl;
        right_high = refl;
        rows = sym no_rows;
        children = take-append-drop 62 page.children;
        above = above;
        below = below;
        sound_l = applied-page (MakeInner page.low sep (take 62 page.children)) a (inner_left page a) ha (all_take IsChild 62 page.children content.2) (makes_left a ea);
        sound_r = applied-page (MakeInner sep page.high (drop 62 page.children)) b (inner_right page b) hb (all_drop IsChild 62 page.children content.2) (makes_right b eb);
        filled_l = inner_filled (inner_left page a) refl (omega (arith, left_count));
        filled_r = inner_filled (inner_right page b) refl (omega (arith, right_count));
      };
    }
  where
    or_right : (a b : Bool) → b ≡ true → (a || b) ≡ true
    or_right true b e = refl
    or_right false b e = e

-- ---- the root

-- what the part of a plan that splits the root leaves
pub record RootPiece (spare spare' : List ℕ) (plan : Plan) (pages : PageMap) (height l r : ℕ) (left right : PageView) : Type 0 where
  pub shape : Reshapes spare spare' plan pages height (suc height)
  pub at_l : after_plan plan pages l ≡ left
  pub at_r : after_plan plan pages r ≡ right
  pub others : (n : ℕ) → n ≢ l → n ≢ r → n ≢ 1 → after_plan plan pages n ≡ pages n

root_node : (spare : List ℕ) (pages : PageMap) (height : ℕ) → TreeWith spare pages height → IsNode (pages 1).kind × ((pages 1).low ≡ 0) × ((pages 1).high ≡ top)
root_node spare pages zero tree = (inl tree.levels.0, tree.levels.1, tree.levels.2)
root_node spare pages (suc height) tree = (inr tree.levels.0.0, tree.levels.0.1, tree.levels.0.2)

pub root_fences : (spare : List ℕ) (pages : PageMap) (height : ℕ) → TreeWith spare pages height → ((pages 1).low ≡ 0) × ((pages 1).high ≡ top)
root_fences spare pages height tree = let n = root_node spare pages height tree in (n.1, n.2)

pub root_piece : (spare spare' : List ℕ) (pages : PageMap) (height l r separator : ℕ) (make_l make_r : Change) (left right : PageView)
    → IsChange make_l → IsChange make_r → TreeWith spare pages height → l < 4096 → r < 4096 → l ≢ r → ((n : ℕ) → uses n spare ≡ uses n spare' + one_if (l == n) + one_if (r == n))
    → applied make_l (pages l) ≡ Some left → applied make_r (pages r) ≡ Some right → PartsOf (pages 1) left right separator
    → RootPiece spare spare' ((l, make_l) ∷ (r, make_r) ∷ (1, MakeInner 0 top (two_children separator l r)) ∷ []) pages height l r left right
root_piece spare spare' pages height l r separator make_l make_r left right ok_l ok_r tree range_l range_r l_r counts makes_l makes_r f =
    let is_root = root_node spare pages height tree in
    let once = node_once spare pages height tree 1 (omega arith) is_root.0 in
    let spare_l : 1 ≤ uses l spare = omega (arith, counts l, one_if-same l) in
    let spare_r : 1 ≤ uses r spare = omega (arith, counts r, one_if-same r) in
    let blank_l : (pages l).kind ≡ Blank = tree.unused l range_l spare_l in
    let blank_r : (pages r).kind ≡ Blank = tree.unused r range_r spare_r in
    let none_l = spare_apart spare pages height tree l range_l spare_l in
    let none_r = spare_apart spare pages height tree r range_r spare_r in
    let l_1 : l ≢ 1 = λ (e : l ≡ 1). absurd (omega (arith, none_l, once, ap (λ (k : ℕ). uses k (tree_pages pages height)) e)) in
    let r_1 : r ≢ 1 = λ (e : r ≡ 1). absurd (omega (arith, none_r, once, ap (λ (k : ℕ). uses k (tree_pages pages height)) e)) in
    let l_0 : l ≢ 0 = kind_apart pages l 0 Blank Meta blank_l tree.meta (λ (e : Blank ≡ Meta). absurd cc) in
    let r_0 : r ≢ 0 = kind_apart pages r 0 Blank Meta blank_r tree.meta (λ (e : Blank ≡ Meta). absurd cc) in
    let old = pages 1 in
    let children = two_children separator l r in
    let new_root : PageView = inner_page old.llsn 0 top children in
    let separator_top : separator < top = omega (arith, f.below, is_root.2) in
    let separator_some : 0 < separator = omega (arith, f.above) in
    let page_l : is_child_page l ≡ true = and_from _ _ (le-leb 2 l (omega (arith, l_0, l_1))) (lt-ltb l 4096 range_l) in
    let page_r : is_child_page r ≡ true = and_from _ _ (le-leb 2 r (omega (arith, r_0, r_1))) (lt-ltb r 4096 range_r) in
    let kept : AllByRecursion IsChild children = (record { low = omega arith; page = page_l }, (record { low = separator_top; page = page_r }, tt)) in
    let test : is_inner 0 top children ≡ true = and_from _ _ refl (test-from_Rises (λ (c : Child). c.low) 0 top children (omega arith, omega arith, (omega (arith, separator_some), separator_top, tt))) in
    let tree_test : is_tree_page old ≡ true = elim is_root.0 [
      | inl leaf ↦ ap (λ (b : Bool). b || is_of Inner old) (kind_test Leaf old leaf)
      | inr inner ↦ or_right (is_of Leaf old) (is_of Inner old) (kind_test Inner old inner)
    ] in
    let can : can_be_inner 0 top old ≡ true = or_right (is_of Blank old) (is_tree_page old && old.low == 0 && old.high == top) (and_from _ _ (and_from _ _ tree_test (eq-eqb old.low 0 is_root.1)) (eq-eqb old.high top is_root.2)) in
    let makes : applied (MakeInner 0 top children) old ≡ Some new_root = ap (λ (b : Bool). cond b (Some new_root) None) (and_from _ _ can test) in
    let all = three pages l r 1 make_l make_r (MakeInner 0 top children) left right new_root l_r l_1 r_1 makes_l makes_r makes in
    let new = after_plan ((l, make_l) ∷ (r, make_r) ∷ (1, MakeInner 0 top children) ∷ []) pages in
    let fits : RootFits spare spare' pages new (record { low = 0; page = l }) (record { low = separator; page = r }) = record {
      node = is_root.0;
      range_l = range_l;
      range_r = range_r;
      apart = l_r;
      counts = counts;
      root_kind = ap (λ (q : PageView). q.kind) all.at_c;
      root_low = ap (λ (q : PageView). q.low) all.at_c;
      root_high = ap (λ (q : PageView). q.high) all.at_c;
      root_children = ap (λ (q : PageView). q.children) all.at_c;
      left_kind = ap (λ (q : PageView). q.kind) all.at_a ∙ f.left_kind;
      left_low = ap (λ (q : PageView). q.low) all.at_a ∙ f.left_low ∙ is_root.1;
      first = refl;
      left_high = ap (λ (q : PageView). q.high) all.at_a ∙ f.left_high;
      right_kind = ap (λ (q : PageView). q.kind) all.at_b ∙ f.right_kind;
      right_low = ap (λ (q : PageView). q.low) all.at_b ∙ f.right_low;
      right_high = ap (λ (q : PageView). q.high) all.at_b ∙ f.right_high ∙ is_root.2;
      rows = ap (λ (q : PageView). q.rows ++ (new r).rows) all.at_a ∙ ap (λ (q : PageView). left.rows ++ q.rows) all.at_b ∙ f.rows;
      children = ap (λ (q : PageView). q.children ++ (new r).children) all.at_a ∙ ap (λ (q : PageView). left.children ++ q.children) all.at_b ∙ f.children;
      others = λ n n1 nl nr. all.others n nl nr n1;
      sound_root = subst IsPage (sym all.at_c) (applied-page (MakeInner 0 top children) old new_root (tree.sound 1 (omega arith)) kept makes);
      sound_l = subst IsPage (sym all.at_a) f.sound_l;
      sound_r = subst IsPage (sym all.at_b) f.sound_r;
      filled_l = subst IsFilled (sym all.at_a) f.filled_l;
      filled_r = subst IsFilled (sym all.at_b) f.filled_r;
    } in
    let again = root_tree spare spare' pages new (record { low = 0; page = l }) (record { low = separator; page = r }) fits height tree in
    record {
      shape = record { changes = ((range_l, ok_l), ((range_r, ok_r), ((omega arith, (test, kept)), tt))); meets = all.meets; tree = again.tree; rows = again.rows; undo = again.undo };
      at_l = all.at_a;
      at_r = all.at_b;
      others = all.others;
    }
  where
    or_right : (a b : Bool) → b ≡ true → (a || b) ≡ true
    or_right true b e = refl
    or_right false b e = e
