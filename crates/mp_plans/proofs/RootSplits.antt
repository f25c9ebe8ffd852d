-- The root is split: its two parts go into new pages, and it becomes an inner page of two children.
use Rattle.std.proofs.Common.{◌≡◌, ◌≢◌, ℕ, zero, suc, ◌+◌, ◌<◌, ◌≤◌, ◌==◌, false, List, [], ◌∷◌, ◌++◌, length, refl, sym, ap, subst, ◌∙◌, inl, inr, arith}
use Rattle.std.proofs.lemmas.Bool.{cases_eq}
use Rattle.std.proofs.lemmas.List.{append_assoc}
use Rattle.std.proofs.lemmas.Nat.Bits.{bit_at-lt}
use Rattle.mp_cells.specs.declared.kinds.Kind.{Kind}
use Rattle.mp_cells.specs.declared.kinds.Kind.TheVariants.{Blank, Meta, Leaf, Inner, Undo}
use Rattle.mp_cells.specs.declared.children.Child.{Child}
use Rattle.mp_cells.specs.PageView.{PageView, IsPage, is_of, bit_of}
use Rattle.mp_cells.specs.Trees.{PageMap, top, root, Fits, below, Levels, leaves, pages_under, tree_pages, one_if, uses, rows_under}
use Rattle.mp_cells.specs.Writes.{record_in}
use Rattle.mp_cells.proofs.Uses.{one_if-same}
use Rattle.mp_cells.proofs.Spare.{TreeWith, kind_apart, spare_apart}
use Rattle.mp_plans.proofs.Reshaping.{no_record}
use Rattle.mp_plans.proofs.Steps.{kind_other}
use Rattle.mp_plans.proofs.SplitLevels.{levels_on}
use Rattle.mp_plans.proofs.SplitTrees.{IsNode, node_not_undo, node_apart, node_once, IsFilled, Again}

pub record RootFits (spare spare' : List ℕ) (pages new : PageMap) (left right : Child) : Type 0 where
  pub node : IsNode (pages 1).kind
  pub range_l : left.page < 4096
  pub range_r : right.page < 4096
  pub apart : left.page ≢ right.page
  pub counts : (n : ℕ) → uses n spare ≡ uses n spare' + one_if (left.page == n) + one_if (right.page == n)
  pub root_kind : (new 1).kind ≡ Inner
  pub root_low : (new 1).low ≡ 0
  pub root_high : (new 1).high ≡ top
  pub root_children : (new 1).children ≡ left ∷ right ∷ []
  pub left_kind : (new left.page).kind ≡ (pages 1).kind
  pub left_low : (new left.page).low ≡ left.low
  pub first : left.low ≡ 0
  pub left_high : (new left.page).high ≡ right.low
  pub right_kind : (new right.page).kind ≡ (pages 1).kind
  pub right_low : (new right.page).low ≡ right.low
  pub right_high : (new right.page).high ≡ top
  pub rows : (new left.page).rows ++ (new right.page).rows ≡ (pages 1).rows
  pub children : (new left.page).children ++ (new right.page).children ≡ (pages 1).children
  pub others : (n : ℕ) → n ≢ 1 → n ≢ left.page → n ≢ right.page → new n ≡ pages n
  pub sound_root : IsPage (new 1)
  pub sound_l : IsPage (new left.page)
  pub sound_r : IsPage (new right.page)
  pub filled_l : IsFilled (new left.page)
  pub filled_r : IsFilled (new right.page)

module _ (spare spare' : List ℕ) (pages new : PageMap) (left right : Child) (f : RootFits spare spare' pages new left right) where
  -- the level of the two parts
  parts_fit : (kind : Kind) → (pages 1).kind ≡ kind → Fits new kind top (left ∷ right ∷ [])
  parts_fit kind e = (f.left_kind ∙ e, f.left_low, f.left_high, (f.right_kind ∙ e, f.right_low, f.right_high, tt))

  -- what is under them is what was under the root
  record Under (height : ℕ) : Type 0 where
    levels : Levels new height (left ∷ right ∷ [])
    uses_are : (n : ℕ) → uses n (pages_under new height (left ∷ right ∷ [])) + one_if (1 == n) ≡ uses n (pages_under pages height (root ∷ [])) + one_if (left.page == n) + one_if (right.page == n)
    rows_are : rows_under new (leaves new height (left ∷ right ∷ [])) ≡ rows_under pages (leaves pages height (root ∷ []))

  joined : {T : Type 0} (F : PageView → List T) → F (new left.page) ++ F (new right.page) ≡ F (pages 1) → F (new left.page) ++ (F (new right.page) ++ []) ≡ F (pages 1) ++ []
  joined {T} F e = sym (append_assoc (F (new left.page)) (F (new right.page)) []) ∙ ap (λ (xs : List T). xs ++ []) e

  under : (height : ℕ) → Levels pages height (root ∷ []) → uses 1 (pages_under pages height (root ∷ [])) ≡ 1 → uses left.page (pages_under pages height (root ∷ [])) ≡ 0 → uses right.page (pages_under pages height (root ∷ [])) ≡ 0 → Under height
  under zero l one no_l no_r = record {
    levels = parts_fit Leaf l.0;
    uses_are = λ n. omega arith;
    rows_are = joined (λ p. p.rows) f.rows;
  }
  under (suc height) l one no_l no_r =
      let deep = below pages (root ∷ []) in
      let count : (n : ℕ) → uses n (1 ∷ pages_under pages height deep) ≡ one_if (1 == n) + uses n (pages_under pages height deep) = λ n. refl in
      let next : below new (left ∷ right ∷ []) ≡ deep = joined (λ p. p.children) f.children in
      let same : (n : ℕ) → 1 ≤ uses n (pages_under pages height deep) → new n ≡ pages n = λ n h.
      f.others n
      (λ (e : n ≡ 1). absurd (omega (arith, h, one, count 1, one_if-same 1, ap (λ (k : ℕ). uses k (pages_under pages height deep)) e)))
      (λ (e : n ≡ left.page). absurd (omega (arith, h, no_l, count left.page, ap (λ (k : ℕ). uses k (pages_under pages height deep)) e)))
      (λ (e : n ≡ right.page). absurd (omega (arith, h, no_r, count right.page, ap (λ (k : ℕ). uses k (pages_under pages height deep)) e))) in
      let rest = levels_on pages new height deep same l.1 in
      record {
        levels = (parts_fit Inner l.0.0, subst (Levels new height) (sym next) rest.levels);
        uses_are = λ n. omega (arith, rest.numbers n, ap (λ (xs : List Child). uses n (pages_under new height xs)) next);
        rows_are = ap (λ (xs : List Child). rows_under new (leaves new height xs)) next ∙ rest.rows;
      }

  pub root_tree : (height : ℕ) → TreeWith spare pages height → Again spare' pages new height (suc height)
  root_tree height tree =
      let l = left.page in
      let r = right.page in
      let spare_l : 1 ≤ uses l spare = omega (arith, f.counts l, one_if-same l) in
      let spare_r : 1 ≤ uses r spare = omega (arith, f.counts r, one_if-same r) in
      let blank_l : (pages l).kind ≡ Blank = tree.unused l f.range_l spare_l in
      let blank_r : (pages r).kind ≡ Blank = tree.unused r f.range_r spare_r in
      let once = node_once spare pages height tree 1 (omega arith) f.node in
      let none_l = spare_apart spare pages height tree l f.range_l spare_l in
      let none_r = spare_apart spare pages height tree r f.range_r spare_r in
      let deep = under height tree.levels once none_l none_r in
      let next : below new (root ∷ []) ≡ left ∷ right ∷ [] = ap (λ (xs : List Child). xs ++ []) f.root_children in
      let node_l : IsNode (new l).kind = subst IsNode (sym f.left_kind) f.node in
      let node_r : IsNode (new r).kind = subst IsNode (sym f.right_kind) f.node in
      let by_page : (P : ℕ → PageView → Type 0) → P 1 (new 1) → P l (new l) → P r (new r) → ((n : ℕ) → P n (pages n)) → (n : ℕ) → P n (new n) = λ P at_1 at_l at_r rest n.
      elim (cases_eq n 1) [
        | inl same ↦ subst (λ (k : ℕ). P k (new k)) (sym same) at_1
        | inr not_1 ↦ elim (cases_eq n l) [
          | inl same ↦ subst (λ (k : ℕ). P k (new k)) (sym same) at_l
          | inr not_l ↦ elim (cases_eq n r) [
            | inl same ↦ subst (λ (k : ℕ). P k (new k)) (sym same) at_r
            | inr not_r ↦ subst (P n) (sym (f.others n not_1 not_l not_r)) (rest n)
          ]
        ]
      ] in
      let apart_l : 0 ≢ l = kind_apart pages 0 l Meta Blank tree.meta blank_l (λ (e : Meta ≡ Blank). absurd cc) in
      let apart_r : 0 ≢ r = kind_apart pages 0 r Meta Blank tree.meta blank_r (λ (e : Meta ≡ Blank). absurd cc) in
      let apart_1 : ◌≢◌ {A = ℕ} 0 1 = λ (e : ◌≡◌ {A = ℕ} 0 1). absurd (omega (arith, e)) in
      let zero_page : new 0 ≡ pages 0 = f.others 0 apart_1 apart_l apart_r in
      let undo_1 : is_of Undo (pages 1) ≡ false = node_not_undo (pages 1) f.node in
      let undo_l : is_of Undo (pages l) ≡ false = kind_other Undo Blank (pages l) blank_l refl in
      let undo_r : is_of Undo (pages r) ≡ false = kind_other Undo Blank (pages r) blank_r refl in
      let new_1 : is_of Undo (new 1) ≡ false = kind_other Undo Inner (new 1) f.root_kind refl in
      let new_l : is_of Undo (new l) ≡ false = node_not_undo (new l) node_l in
      let new_r : is_of Undo (new r) ≡ false = node_not_undo (new r) node_r in
      let undo_is : (n : ℕ) → is_of Undo (new n) ≡ is_of Undo (pages n) = by_page (λ n view. is_of Undo view ≡ is_of Undo (pages n)) (new_1 ∙ sym undo_1) (new_l ∙ sym undo_l) (new_r ∙ sym undo_r) (λ n. refl) in
      let count_new : (n : ℕ) → uses n (tree_pages new (suc height)) ≡ uses n (tree_pages pages height) + one_if (l == n) + one_if (r == n) = λ n. omega (arith, deep.uses_are n, ap (λ (xs : List Child). uses n (pages_under new height xs)) next) in
      let used_most : (n : ℕ) → n < 4096 → uses n spare ≤ 1 = λ n h. omega (arith, tree.bits n h, bit_at-lt) in
      record {
        tree = record {
          sound = by_page (λ n view. n < 4096 → IsPage view) (λ h. f.sound_root) (λ h. f.sound_l) (λ h. f.sound_r) tree.sound;
          meta = ap (λ (q : PageView). q.kind) zero_page ∙ tree.meta;
          levels = ((f.root_kind, f.root_low, f.root_high, tt), subst (Levels new height) (sym next) deep.levels);
          leaf_fill = by_page (λ n view. n < 4096 → n ≢ 1 → view.kind ≡ Leaf → 7 ≤ length view.rows) (λ h ne e. absurd (ne refl)) (λ h ne e. f.filled_l.leaf e) (λ h ne e. f.filled_r.leaf e) tree.leaf_fill;
          inner_fill = by_page (λ n view. n < 4096 → n ≢ 1 → view.kind ≡ Inner → 62 ≤ length view.children) (λ h ne e. absurd (ne refl)) (λ h ne e. f.filled_l.inner e) (λ h ne e. f.filled_r.inner e) tree.inner_fill;
          root_fill = λ e. omega (arith, ap (λ (xs : List Child). length xs) f.root_children);
          bits = λ n lt. omega (arith, tree.bits n lt, ap (λ (q : PageView). bit_of q.bits n) zero_page, ap one_if (undo_is n), count_new n, f.counts n);
          blank = λ n lt e.
              let bit : bit_of (pages 0).bits n ≡ 0 = ap (λ (q : PageView). bit_of q.bits n) (sym zero_page) ∙ e in
              by_page (λ k view. k < 4096 → bit_of (pages 0).bits k ≡ 0 → view.kind ≡ Blank)
              (λ h z. absurd (omega (arith, z, tree.bits 1 h, once)))
              (λ h z. absurd (omega (arith, z, tree.bits l h, spare_l)))
              (λ h z. absurd (omega (arith, z, tree.bits r h, spare_r)))
              tree.blank n lt bit;
          unused = by_page (λ k view. k < 4096 → 1 ≤ uses k spare' → view.kind ≡ Blank)
              (λ h z. absurd (node_apart (pages 1).kind Blank f.node (λ (e : Blank ≡ Leaf). absurd cc) (λ (e : Blank ≡ Inner). absurd cc) (tree.unused 1 h (omega (arith, z, f.counts 1)))))
              (λ h z. absurd (omega (arith, z, used_most l h, f.counts l, one_if-same l)))
              (λ h z. absurd (omega (arith, z, used_most r h, f.counts r, one_if-same r)))
              (λ n h z. tree.unused n h (omega (arith, z, f.counts n)));
        };
        rows = ap (λ (xs : List Child). rows_under new (leaves new height xs)) next ∙ deep.rows_are;
        undo = λ link. by_page (λ n view. record_in view link.index ≡ record_in (pages n) link.index)
            (no_record (new 1) link.index new_1 ∙ sym (no_record (pages 1) link.index undo_1))
            (no_record (new l) link.index new_l ∙ sym (no_record (pages l) link.index undo_l))
            (no_record (new r) link.index new_r ∙ sym (no_record (pages r) link.index undo_r))
            (λ n. refl) link.page;
      }
