-- The part of a plan that splits a page under its parent: the right part is made, the left part is cut, and the parent
-- gets the right part as a child.
use Rattle.mp_cells.specs.Mtrs.{IsChange}
use Rattle.std.proofs.Common.{◌≡◌, ◌≢◌, ℕ, zero, suc, ◌+◌, ◌^◌, ◌<◌, ◌≤◌, ◌==◌, true, List, [], ◌∷◌, ◌++◌, length, take, drop, Some, sym, ap, subst, ◌∙◌, inl, inr, arith}
use Rattle.std.specs.List.{AllByRecursion}
use Rattle.std.proofs.lemmas.Bool.{cases_eq, cases_lt, and_from, lt-ltb, le-leb}
use Rattle.mp_cells.specs.declared.changes.Change.{Change}
use Rattle.mp_cells.specs.declared.changes.Change.TheVariants.{Cut, PutChild}
use Rattle.mp_cells.specs.declared.kinds.Kind.TheVariants.{Blank, Meta, Leaf, Inner}
use Rattle.mp_cells.specs.declared.children.Child.{Child}
use Rattle.mp_cells.specs.Children.{IsChild, is_child_page}
use Rattle.mp_cells.specs.PageView.{PageView, IsPage, is_inner}
use Rattle.mp_cells.specs.Keys.{with_cell}
use Rattle.mp_cells.specs.Changes.{applied}
use Rattle.mp_cells.specs.Trees.{PageMap, top, root, low_of, below, Levels, pages_under, tree_pages, uses, one_if}
use Rattle.mp_cells.proofs.KeyEdits.{length-with_cell}
use Rattle.mp_cells.proofs.AppliedPages.{applied-page}
use Rattle.mp_cells.proofs.ChildSpelling.{child_page_range}
use Rattle.mp_cells.specs.Plans.{Plan, after_plan}
use Rattle.mp_plans.specs.Growth.{put_child}
use Rattle.mp_cells.proofs.Uses.{uses-append, one_if-same, one_if-other}
use Rattle.mp_cells.proofs.Heights.{numbers, level_uses}
use Rattle.mp_cells.proofs.Spare.{TreeWith, content_of, leaf_facts, inner_facts, kind_apart, inner_once, spare_apart}
use Rattle.mp_cells.proofs.Places.{numbers-append, not_in_level, in_level, parts_uses}
use Rattle.mp_plans.proofs.Reshaping.{Reshapes}
use Rattle.mp_plans.proofs.SplitTrees.{IsNode, node_once, child_fences, IsFilled, SplitFits, split_tree}
use Rattle.mp_plans.proofs.Pieces.{three, child_fits}

-- ---- a parent's children in the tree

children_below : (pages : PageMap) (p n : ℕ) (level : List Child) → 1 ≤ uses p (numbers level) → uses n (numbers (pages p).children) ≤ uses n (numbers (below pages level))
children_below pages p n [] h = absurd (omega (arith, h))
children_below pages p n (child ∷ level) h =
    let count : uses n (numbers (below pages (child ∷ level))) ≡ uses n (numbers (pages child.page).children) + uses n (numbers (below pages level)) = ap (uses n) (numbers-append (pages child.page).children (below pages level)) ∙ uses-append n (numbers (pages child.page).children) (numbers (below pages level)) in
    elim (cases_eq child.page p) [
      | inl same ↦ omega (arith, count, ap (λ (k : ℕ). uses n (numbers (pages k).children)) same)
      | inr apart ↦ omega (arith, count, children_below pages p n level (omega (arith, h, one_if-other child.page p apart)))
    ]

-- each child of p is used there, and p above it
children_under : (pages : PageMap) (p n height : ℕ) (level : List Child) → (pages p).kind ≡ Inner → Levels pages height level → 1 ≤ uses p (pages_under pages height level) → (uses n (numbers (pages p).children) ≤ uses n (pages_under pages height level)) × (uses p (numbers (pages p).children) + 1 ≤ uses p (pages_under pages height level))
children_under pages p n zero level kind l h =
    let other : (pages p).kind ≢ Leaf = λ (e : (pages p).kind ≡ Leaf). let both : Inner ≡ Leaf = sym kind ∙ e in absurd cc in
    absurd (omega (arith, h, not_in_level pages Leaf top p level l other))
children_under pages p n (suc height) level kind l h =
    let count : (k : ℕ) → uses k (numbers level ++ pages_under pages height (below pages level)) ≡ uses k (numbers level) + uses k (pages_under pages height (below pages level)) = λ k. uses-append k (numbers level) (pages_under pages height (below pages level)) in
    elim (cases_lt 0 (uses p (numbers level))) [
      | inl some ↦
          let here : 1 ≤ uses p (numbers level) = omega (arith, some) in (
            omega (arith, count n, children_below pages p n level here, level_uses pages height (below pages level) n),
            omega (arith, count p, here, children_below pages p p level here, level_uses pages height (below pages level) p),
          )
      | inr none ↦
          let rest = children_under pages p n height (below pages level) kind l.1 (omega (arith, h, none, count p)) in
          (omega (arith, count n, rest.0), omega (arith, count p, rest.1))
    ]

all_at : {T : Type 0} (P : T → Type 0) (before : List T) (x : T) (behind : List T) → AllByRecursion P (before ++ x ∷ behind) → P x
all_at P [] x behind h = h.0
all_at P (b ∷ before) x behind h = all_at P before x behind h.1

pub all_drop : {T : Type 0} (P : T → Type 0) (n : ℕ) (xs : List T) → AllByRecursion P xs → AllByRecursion P (drop n xs)
all_drop P zero xs h = h
all_drop P (suc n) [] h = tt
all_drop P (suc n) (x ∷ xs) h = all_drop P n xs h.1

pub all_take : {T : Type 0} (P : T → Type 0) (n : ℕ) (xs : List T) → AllByRecursion P xs → AllByRecursion P (take n xs)
all_take P zero xs h = tt
all_take P (suc n) [] h = tt
all_take P (suc n) (x ∷ xs) h = (h.0, all_take P n xs h.1)

-- ---- any page under its parent

-- what the two parts have
pub record PartsOf (old left right : PageView) (separator : ℕ) : Type 0 where
  pub left_kind : left.kind ≡ old.kind
  pub left_low : left.low ≡ old.low
  pub left_high : left.high ≡ separator
  pub right_kind : right.kind ≡ old.kind
  pub right_low : right.low ≡ separator
  pub right_high : right.high ≡ old.high
  pub rows : left.rows ++ right.rows ≡ old.rows
  pub children : left.children ++ right.children ≡ old.children
  pub above : old.low < separator
  pub below : separator < old.high
  pub sound_l : IsPage left
  pub sound_r : IsPage right
  pub filled_l : IsFilled left
  pub filled_r : IsFilled right

-- what a split under a parent leaves
pub record SplitPiece (spare spare' : List ℕ) (plan : Plan) (pages : PageMap) (height m p r separator : ℕ) (left right : PageView) : Type 0 where
  pub shape : Reshapes spare spare' plan pages height height
  pub at_m : after_plan plan pages m ≡ left
  pub at_r : after_plan plan pages r ≡ right
  pub at_p : after_plan plan pages p ≡ record (pages p) { children = with_cell (λ c. c.low) (record { low = separator; page = r }) (pages p).children }
  pub others : (n : ℕ) → n ≢ r → n ≢ m → n ≢ p → after_plan plan pages n ≡ pages n

pub split_piece : (spare spare' : List ℕ) (pages : PageMap) (height m p r separator : ℕ) (make : Change) (left right : PageView)
    → IsChange make → TreeWith spare pages height → IsNode (pages m).kind → m < 4096 → p < 4096 → r < 4096
    → ((n : ℕ) → uses n spare ≡ uses n spare' + one_if (r == n))
    → (pages p).kind ≡ Inner → 1 ≤ uses m (numbers (pages p).children) → length (pages p).children < 124
    → applied make (pages r) ≡ Some right → applied (Cut separator) (pages m) ≡ Some left → PartsOf (pages m) left right separator
    → SplitPiece spare spare' ((r, make) ∷ (m, Cut separator) ∷ put_child p separator r ∷ []) pages height m p r separator left right
split_piece spare spare' pages height m p r separator make left right make_ok tree node range_m range_p range_r counts inner has room makes cuts f =
    let new_child : Child = record { low = separator; page = r } in
    let spare_r : 1 ≤ uses r spare = omega (arith, counts r, one_if-same r) in
    let blank : (pages r).kind ≡ Blank = tree.unused r range_r spare_r in
    let facts = inner_facts (pages p) (tree.sound p range_p) inner in
    let once_m = node_once spare pages height tree m range_m node in
    let once_p = inner_once spare pages height tree p range_p inner in
    let none_r = spare_apart spare pages height tree r range_r spare_r in
    let used = children_under pages p m height (root ∷ []) inner tree.levels (omega (arith, once_p)) in
    let at = in_level m (pages p).children has in
    let count : uses m (numbers (at.before ++ at.child ∷ at.behind)) ≡ 1 = ap (λ (xs : List Child). uses m (numbers xs)) (sym at.whole) ∙ omega (arith, has, used.0, once_m) in
    let parts = parts_uses m m at.before at.child at.behind at.page_is in
    let fences = child_fences spare pages height tree p range_p at.before at.child at.behind inner at.whole in
    let low : (pages m).low ≡ at.child.low = ap (λ (k : ℕ). (pages k).low) (sym at.page_is) ∙ fences.low in
    let high : (pages m).high ≡ low_of at.behind (pages p).high = ap (λ (k : ℕ). (pages k).high) (sym at.page_is) ∙ fences.high in
    let put = child_fits (pages p) m new_child at.before at.child at.behind inner at.whole facts.rises at.page_is (omega (arith, count, parts, one_if-same m)) (omega (arith, count, parts, one_if-same m)) (omega (arith, low, f.above)) (omega (arith, high, f.below)) room in
    let parent : PageView = record (pages p) { children = with_cell (λ c. c.low) new_child (pages p).children } in
    let m_p : m ≢ p = λ (e : m ≡ p). absurd (omega (arith, has, used.1, once_p, ap (λ (k : ℕ). uses k (numbers (pages p).children)) e)) in
    let r_m : r ≢ m = λ (e : r ≡ m). absurd (omega (arith, none_r, once_m, ap (λ (k : ℕ). uses k (tree_pages pages height)) e)) in
    let r_p : r ≢ p = kind_apart pages r p Blank Inner blank inner (λ (e : Blank ≡ Inner). absurd cc) in
    let all = three pages r m p make (Cut separator) (PutChild new_child) right left parent r_m r_p m_p makes cuts put.0 in
    let kept = all_at IsChild at.before at.child at.behind (subst (AllByRecursion IsChild) at.whole (content_of Inner (pages p) (tree.sound p range_p) inner).2) in
    let two : 2 ≤ at.child.page = (child_page_range at.child.page kept.page).0 in
    let m_1 : m ≢ 1 = λ (e : m ≡ 1). absurd (omega (arith, two, at.page_is, e)) in
    let r_0 : r ≢ 0 = kind_apart pages r 0 Blank Meta blank tree.meta (λ (e : Blank ≡ Meta). absurd cc) in
    let r_1 : r ≢ 1 = λ (e : r ≡ 1). absurd (omega (arith, none_r, root_used height tree, ap (λ (k : ℕ). uses k (tree_pages pages height)) e)) in
    let child_page : is_child_page r ≡ true = and_from _ _ (le-leb 2 r (omega (arith, r_0, r_1))) (lt-ltb r 4096 range_r) in
    let m_facts : (pages m).high ≤ 2 ^ 32 = high_most in
    let is_child : IsChild new_child = record { low = omega (arith, f.below, m_facts); page = child_page } in
    let new = after_plan ((r, make) ∷ (m, Cut separator) ∷ put_child p separator r ∷ []) pages in
    let fits : SplitFits spare spare' pages new m p new_child = record {
      splits = record {
        left_kind = ap (λ (q : PageView). q.kind) all.at_b ∙ f.left_kind;
        left_low = ap (λ (q : PageView). q.low) all.at_b ∙ f.left_low;
        left_high = ap (λ (q : PageView). q.high) all.at_b ∙ f.left_high;
        right_kind = ap (λ (q : PageView). q.kind) all.at_a ∙ f.right_kind;
        right_low = ap (λ (q : PageView). q.low) all.at_a ∙ f.right_low;
        right_high = ap (λ (q : PageView). q.high) all.at_a ∙ f.right_high;
        rows = ap (λ (q : PageView). q.rows ++ (new r).rows) all.at_b ∙ ap (λ (q : PageView). left.rows ++ q.rows) all.at_a ∙ f.rows;
        children = ap (λ (q : PageView). q.children ++ (new r).children) all.at_b ∙ ap (λ (q : PageView). left.children ++ q.children) all.at_a ∙ f.children;
        parent_before = inner;
        parent_kind = ap (λ (q : PageView). q.kind) all.at_c ∙ inner;
        parent_low = ap (λ (q : PageView). q.low) all.at_c;
        parent_high = ap (λ (q : PageView). q.high) all.at_c;
        parent_children = ap (λ (q : PageView). q.children) all.at_c ∙ put.1;
        has_child = has;
        others = λ n nm np nr. all.others n nr nm np;
      };
      range_m = range_m;
      range_p = range_p;
      range_r = range_r;
      node = node;
      not_root = m_1;
      counts = counts;
      sound_m = subst IsPage (sym all.at_b) f.sound_l;
      sound_p = subst IsPage (sym all.at_c) (applied-page (PutChild new_child) (pages p) parent (tree.sound p range_p) is_child put.0);
      sound_r = subst IsPage (sym all.at_a) f.sound_r;
      filled_m = subst IsFilled (sym all.at_b) f.filled_l;
      filled_r = subst IsFilled (sym all.at_a) f.filled_r;
      more = omega (arith, ap (λ (q : PageView). length q.children) all.at_c, length-with_cell (λ (c : Child). c.low) (pages p).low (pages p).high new_child (pages p).children facts.rises);
    } in
    let again = split_tree spare spare' pages new height m p new_child tree fits in
    record {
      shape = record { changes = ((range_r, make_ok), ((range_m, is_child.low), ((range_p, is_child), tt))); meets = all.meets; tree = again.tree; rows = again.rows; undo = again.undo };
      at_m = all.at_b;
      at_r = all.at_a;
      at_p = all.at_c;
      others = all.others;
    }
  where
    root_used : (height : ℕ) → TreeWith spare pages height → 1 ≤ uses 1 (tree_pages pages height)
    root_used zero t = omega (arith, one_if-same 1)
    root_used (suc h) t = omega (arith, one_if-same 1)

    high_most : (pages m).high ≤ 2 ^ 32
    high_most = elim node [
      | inl leaf ↦ (leaf_facts (pages m) (tree.sound m range_m) leaf).high_most
      | inr is_inner ↦ (inner_facts (pages m) (tree.sound m range_m) is_inner).high_most
    ]
