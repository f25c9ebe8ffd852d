-- A tree of which a page, or the root, was split is a tree.
use Rattle.std.proofs.Common.{◌≡◌, ◌≢◌, ℕ, zero, suc, ◌+◌, ◌<◌, ◌≤◌, ◌==◌, false, List, [], ◌∷◌, ◌++◌, length, refl, sym, ap, subst, ◌∙◌, inl, inr, ◌⊎◌, arith}
use Rattle.std.proofs.lemmas.Bool.{cases_eq, cases_lt}
use Rattle.std.proofs.lemmas.List.{append_assoc}
use Rattle.std.proofs.lemmas.List.Concat.{flat_map-append}
use Rattle.std.proofs.lemmas.Nat.Bits.{bit_at-lt}
use Rattle.mp_cells.specs.declared.kinds.Kind.{Kind}
use Rattle.mp_cells.specs.declared.kinds.Kind.TheVariants.{Blank, Meta, Leaf, Inner, Undo}
use Rattle.mp_cells.specs.declared.rows.Link.{Link}
use Rattle.mp_cells.specs.declared.children.Child.{Child}
use Rattle.mp_cells.specs.PageView.{PageView, IsPage, is_of, bit_of}
use Rattle.mp_cells.specs.Trees.{PageMap, top, root, low_of, Fits, below, Levels, pages_under, tree_pages, one_if, uses, tree_rows}
use Rattle.mp_cells.proofs.TreeSearch.{InRange, below_in_range, low_of-below, fits_parts}
use Rattle.mp_cells.specs.Writes.{record_in, undo_at}
use Rattle.mp_cells.proofs.Uses.{uses-append, one_if-same}
use Rattle.mp_cells.proofs.Heights.{numbers}
use Rattle.mp_cells.proofs.TreeSearch.{root_range}
use Rattle.mp_cells.proofs.Spare.{TreeWith, kind_apart, in_tree, inner_once, spare_apart}
use Rattle.mp_cells.proofs.Places.{in_level, in_parts, not_in_level}
use Rattle.mp_plans.proofs.Reshaping.{no_record}
use Rattle.mp_plans.proofs.Steps.{kind_other}
use Rattle.mp_plans.proofs.SplitLevels.{Splits, split_under}

-- a leaf or an inner page
abbrev pub IsNode : Kind → Type 0
IsNode kind = (kind ≡ Leaf) ⊎ (kind ≡ Inner)

pub node_not_undo : (page : PageView) → IsNode page.kind → is_of Undo page ≡ false
node_not_undo page node = elim node [
  | inl leaf ↦ kind_other Undo Leaf page leaf refl
  | inr inner ↦ kind_other Undo Inner page inner refl
]

pub node_apart : (kind other : Kind) → IsNode kind → other ≢ Leaf → other ≢ Inner → kind ≢ other
node_apart kind other node leaf inner = λ (e : kind ≡ other). elim node [
  | inl l ↦ leaf (sym e ∙ l)
  | inr i ↦ inner (sym e ∙ i)
]

blank_apart : (kind : Kind) → IsNode kind → kind ≢ Blank
blank_apart kind node = node_apart kind Blank node (λ (e : Blank ≡ Leaf). absurd cc) (λ (e : Blank ≡ Inner). absurd cc)

meta_apart : (kind : Kind) → IsNode kind → kind ≢ Meta
meta_apart kind node = node_apart kind Meta node (λ (e : Meta ≡ Leaf). absurd cc) (λ (e : Meta ≡ Inner). absurd cc)

pub node_once : (spare : List ℕ) (pages : PageMap) (height : ℕ) → TreeWith spare pages height → (n : ℕ) → n < 4096 → IsNode (pages n).kind → uses n (tree_pages pages height) ≡ 1
node_once spare pages height tree n lt node = elim node [
  | inl leaf ↦ in_tree spare pages height tree n lt Leaf leaf refl (λ (e : Leaf ≡ Meta). absurd cc) (λ (e : Leaf ≡ Blank). absurd cc)
  | inr inner ↦ in_tree spare pages height tree n lt Inner inner refl (λ (e : Inner ≡ Meta). absurd cc) (λ (e : Inner ≡ Blank). absurd cc)
]

-- ---- a child's fences are what its parent says

pub record ChildFences (pages : PageMap) (p : ℕ) (child : Child) (behind : List Child) : Type 0 where
  pub node : IsNode (pages child.page).kind
  pub low : (pages child.page).low ≡ child.low
  pub high : (pages child.page).high ≡ low_of behind (pages p).high

low_of-append : (xs ys : List Child) (high : ℕ) → low_of (xs ++ ys) high ≡ low_of xs (low_of ys high)
low_of-append [] ys high = refl
low_of-append (x ∷ xs) ys high = refl

fences_in : (pages : PageMap) (kind : Kind) → IsNode kind → (p : ℕ) (front before : List Child) (child : Child) (behind back : List Child) → Fits pages kind top (front ++ ((before ++ child ∷ behind) ++ back)) → low_of back top ≡ (pages p).high → ChildFences pages p child behind
fences_in pages kind node p front before child behind back f e =
    let whole : front ++ ((before ++ child ∷ behind) ++ back) ≡ (front ++ before) ++ child ∷ (behind ++ back) = ap (λ (xs : List Child). front ++ xs) (append_assoc before (child ∷ behind) back) ∙ sym (append_assoc front before (child ∷ (behind ++ back))) in
    let parts = fits_parts pages kind top (front ++ before) child (behind ++ back) (subst (Fits pages kind top) whole f) in
    record {
      node = subst IsNode (sym parts.kind_is) node;
      low = parts.low_is;
      high = parts.high_is ∙ low_of-append behind back top ∙ ap (low_of behind) e;
    }

fences_under : (pages : PageMap) → ((n : ℕ) → n < 4096 → IsPage (pages n)) → (p : ℕ) (before : List Child) (child : Child) (behind : List Child) → (pages p).kind ≡ Inner → (pages p).children ≡ before ++ child ∷ behind → (height : ℕ) (level : List Child) → InRange level → Levels pages height level → 1 ≤ uses p (pages_under pages height level) → ChildFences pages p child behind
fences_under pages sound p before child behind kind is zero level r l h =
    let other : (pages p).kind ≢ Leaf = λ (e : (pages p).kind ≡ Leaf). let both : Inner ≡ Leaf = sym kind ∙ e in absurd cc in
    absurd (omega (arith, h, not_in_level pages Leaf top p level l other))
fences_under pages sound p before child behind kind is (suc height) level r l h = elim (cases_lt 0 (uses p (numbers level))) [
  | inl some ↦
      let at = in_level p level (omega (arith, some)) in
      let range = in_parts at.before at.child at.behind (subst InRange at.whole r) in
      let parts = fits_parts pages Inner top at.before at.child at.behind (subst (Fits pages Inner top) at.whole l.0) in
      let next : below pages level ≡ below pages at.before ++ ((before ++ child ∷ behind) ++ below pages at.behind) =
      ap (below pages) at.whole ∙ flat_map-append (λ (c : Child). (pages c.page).children) at.before (at.child ∷ at.behind)
      ∙ ap (λ (n : ℕ). below pages at.before ++ ((pages n).children ++ below pages at.behind)) at.page_is
      ∙ ap (λ (xs : List Child). below pages at.before ++ (xs ++ below pages at.behind)) is in
      let end : low_of (below pages at.behind) top ≡ (pages p).high = low_of-below pages sound top at.behind range.1 parts.back ∙ sym parts.high_is ∙ ap (λ (n : ℕ). (pages n).high) at.page_is in
      next_level height (below pages at.before) (below pages at.behind) (subst (Levels pages height) next l.1) end
  | inr none ↦ fences_under pages sound p before child behind kind is height (below pages level) (below_in_range pages sound top level r l.0) l.1 (omega (arith, h, none, uses-append p (numbers level) (pages_under pages height (below pages level))))
]
  where
    next_level : (height : ℕ) (front back : List Child) → Levels pages height (front ++ ((before ++ child ∷ behind) ++ back)) → low_of back top ≡ (pages p).high → ChildFences pages p child behind
    next_level zero front back l e = fences_in pages Leaf (inl refl) p front before child behind back l e
    next_level (suc h) front back l e = fences_in pages Inner (inr refl) p front before child behind back l.0 e

pub child_fences : (spare : List ℕ) (pages : PageMap) (height : ℕ) → TreeWith spare pages height → (p : ℕ) → p < 4096 → (before : List Child) (child : Child) (behind : List Child) → (pages p).kind ≡ Inner → (pages p).children ≡ before ++ child ∷ behind → ChildFences pages p child behind
child_fences spare pages height tree p lt before child behind kind is =
    fences_under pages tree.sound p before child behind kind is height (root ∷ []) root_range tree.levels (omega (arith, inner_once spare pages height tree p lt kind))

-- ---- a page other than the root is split

-- the least fill
pub record IsFilled (page : PageView) : Type 0 where
  pub leaf : page.kind ≡ Leaf → 7 ≤ length page.rows
  pub inner : page.kind ≡ Inner → 62 ≤ length page.children

-- a tree again, with the same rows and undo records
pub record Again (spare' : List ℕ) (pages new : PageMap) (height height' : ℕ) : Type 0 where
  pub tree : TreeWith spare' new height'
  pub rows : tree_rows new height' ≡ tree_rows pages height
  pub undo : (link : Link) → undo_at new link ≡ undo_at pages link

pub record SplitFits (spare spare' : List ℕ) (pages new : PageMap) (m p : ℕ) (right : Child) : Type 0 where
  pub splits : Splits pages new m p right
  pub range_m : m < 4096
  pub range_p : p < 4096
  pub range_r : right.page < 4096
  pub node : IsNode (pages m).kind
  pub not_root : m ≢ 1
  pub counts : (n : ℕ) → uses n spare ≡ uses n spare' + one_if (right.page == n)
  pub sound_m : IsPage (new m)
  pub sound_p : IsPage (new p)
  pub sound_r : IsPage (new right.page)
  pub filled_m : IsFilled (new m)
  pub filled_r : IsFilled (new right.page)
  pub more : length (pages p).children ≤ length (new p).children

pub split_tree : (spare spare' : List ℕ) (pages new : PageMap) (height m p : ℕ) (right : Child) → TreeWith spare pages height → SplitFits spare spare' pages new m p right → Again spare' pages new height height
split_tree spare spare' pages new height m p right tree f =
    let s = f.splits in
    let r = right.page in
    let blank : (pages r).kind ≡ Blank = tree.unused r f.range_r (omega (arith, f.counts r, one_if-same r)) in
    let once_m = node_once spare pages height tree m f.range_m f.node in
    let once_p = inner_once spare pages height tree p f.range_p s.parent_before in
    let none_r = spare_apart spare pages height tree r f.range_r (omega (arith, f.counts r, one_if-same r)) in
    let after = split_under pages new m p right s height (root ∷ []) tree.levels once_p once_m none_r in
    let new_node_m : IsNode (new m).kind = subst IsNode (sym s.left_kind) f.node in
    let new_node_r : IsNode (new r).kind = subst IsNode (sym s.right_kind) f.node in
    let by_page : (P : ℕ → PageView → Type 0) → P m (new m) → P p (new p) → P r (new r) → ((n : ℕ) → P n (pages n)) → (n : ℕ) → P n (new n) = λ P at_m at_p at_r rest n.
    elim (cases_eq n m) [
      | inl same ↦ subst (λ (k : ℕ). P k (new k)) (sym same) at_m
      | inr not_m ↦ elim (cases_eq n p) [
        | inl same ↦ subst (λ (k : ℕ). P k (new k)) (sym same) at_p
        | inr not_p ↦ elim (cases_eq n r) [
          | inl same ↦ subst (λ (k : ℕ). P k (new k)) (sym same) at_r
          | inr not_r ↦ subst (P n) (sym (s.others n not_m not_p not_r)) (rest n)
        ]
      ]
    ] in
    let apart_m : 0 ≢ m = λ (e : 0 ≡ m). meta_apart (pages m).kind f.node (ap (λ (k : ℕ). (pages k).kind) (sym e) ∙ tree.meta) in
    let apart_p : 0 ≢ p = kind_apart pages 0 p Meta Inner tree.meta s.parent_before (λ (e : Meta ≡ Inner). absurd cc) in
    let apart_r : 0 ≢ r = kind_apart pages 0 r Meta Blank tree.meta blank (λ (e : Meta ≡ Blank). absurd cc) in
    let zero_page : new 0 ≡ pages 0 = s.others 0 apart_m apart_p apart_r in
    let undo_m : is_of Undo (pages m) ≡ false = node_not_undo (pages m) f.node in
    let undo_p : is_of Undo (pages p) ≡ false = kind_other Undo Inner (pages p) s.parent_before refl in
    let undo_r : is_of Undo (pages r) ≡ false = kind_other Undo Blank (pages r) blank refl in
    let undo_is : (n : ℕ) → is_of Undo (new n) ≡ is_of Undo (pages n) = by_page (λ n view. is_of Undo view ≡ is_of Undo (pages n)) (node_not_undo (new m) new_node_m ∙ sym undo_m) (kind_other Undo Inner (new p) s.parent_kind refl ∙ sym undo_p) (node_not_undo (new r) new_node_r ∙ sym undo_r) (λ n. refl) in
    record {
      tree = record {
        sound = by_page (λ n view. n < 4096 → IsPage view) (λ h. f.sound_m) (λ h. f.sound_p) (λ h. f.sound_r) tree.sound;
        meta = ap (λ (q : PageView). q.kind) zero_page ∙ tree.meta;
        levels = after.levels;
        leaf_fill = by_page (λ n view. n < 4096 → n ≢ 1 → view.kind ≡ Leaf → 7 ≤ length view.rows) (λ h ne e. f.filled_m.leaf e) (λ h ne e. let both : Inner ≡ Leaf = sym s.parent_kind ∙ e in absurd cc) (λ h ne e. f.filled_r.leaf e) tree.leaf_fill;
        inner_fill = by_page (λ n view. n < 4096 → n ≢ 1 → view.kind ≡ Inner → 62 ≤ length view.children) (λ h ne e. f.filled_m.inner e) (λ h ne e. omega (arith, f.more, tree.inner_fill p h ne s.parent_before)) (λ h ne e. f.filled_r.inner e) tree.inner_fill;
        root_fill = by_page (λ n view. n ≡ 1 → view.kind ≡ Inner → 2 ≤ length view.children) (λ one e. absurd (f.not_root one)) (λ one e. omega (arith, f.more, ap (λ (k : ℕ). length (pages k).children) one, tree.root_fill (ap (λ (k : ℕ). (pages k).kind) (sym one) ∙ s.parent_before))) (λ one e. omega (arith, f.filled_r.inner e)) (λ n one e. omega (arith, ap (λ (k : ℕ). length (pages k).children) one, tree.root_fill (ap (λ (k : ℕ). (pages k).kind) (sym one) ∙ e))) 1 refl;
        bits = λ n lt. omega (arith, tree.bits n lt, ap (λ (q : PageView). bit_of q.bits n) zero_page, ap one_if (undo_is n), after.numbers n, f.counts n);
        blank = λ n lt e.
            let bit : bit_of (pages 0).bits n ≡ 0 = ap (λ (q : PageView). bit_of q.bits n) (sym zero_page) ∙ e in
            by_page (λ k view. k < 4096 → bit_of (pages 0).bits k ≡ 0 → view.kind ≡ Blank)
            (λ h z. absurd (omega (arith, z, tree.bits m h, once_m)))
            (λ h z. absurd (omega (arith, z, tree.bits p h, once_p)))
            (λ h z. absurd (omega (arith, z, tree.bits r h, f.counts r, one_if-same r)))
            tree.blank n lt bit;
        unused = by_page (λ k view. k < 4096 → 1 ≤ uses k spare' → view.kind ≡ Blank)
            (λ h z. absurd (blank_apart (pages m).kind f.node (tree.unused m h (omega (arith, z, f.counts m)))))
            (λ h z. let both : Inner ≡ Blank = sym s.parent_before ∙ tree.unused p h (omega (arith, z, f.counts p)) in absurd cc)
            (λ h z. absurd (omega (arith, z, used_spare r h, f.counts r, one_if-same r)))
            (λ n h z. tree.unused n h (omega (arith, z, f.counts n)));
      };
      rows = after.rows;
      undo = λ link. by_page (λ n view. record_in view link.index ≡ record_in (pages n) link.index)
          (no_record (new m) link.index (node_not_undo (new m) new_node_m) ∙ sym (no_record (pages m) link.index undo_m))
          (no_record (new p) link.index (kind_other Undo Inner (new p) s.parent_kind refl) ∙ sym (no_record (pages p) link.index undo_p))
          (no_record (new r) link.index (node_not_undo (new r) new_node_r) ∙ sym (no_record (pages r) link.index undo_r))
          (λ n. refl) link.page;
    }
  where
    used_spare : (n : ℕ) → n < 4096 → uses n spare ≤ 1
    used_spare n h = omega (arith, tree.bits n h, bit_at-lt)
