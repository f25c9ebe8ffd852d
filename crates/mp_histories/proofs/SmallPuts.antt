-- The put of the small history is well made over a fresh map.
use Rattle.std.proofs.Common.{◌≡◌, ◌≢◌, ℕ, zero, suc, ◌+◌, ◌<◌, ◌≤◌, ◌==◌, ◌&&◌, Bool, false, cond, List, [], ◌∷◌, length, Some, None, slice_get, refl, sym, ap, subst, ◌∙◌, inl, inr, arith}
use Rattle.std.proofs.lemmas.Bool.{cases_eq}
use Rattle.std.proofs.lemmas.Bool.Decides.{nat_tests}
use Rattle.mp_cells.specs.declared.changes.Change.{Change}
use Rattle.mp_cells.specs.declared.changes.Change.TheVariants.{MakeUndo, PutRow, PutUndo, TakePage}
use Rattle.mp_cells.specs.Keys.{with_cell}
use Rattle.mp_cells.specs.declared.kinds.Kind.TheVariants.{Blank, Leaf, Inner, Undo}
use Rattle.mp_cells.specs.declared.rows.Row.{Row}
use Rattle.mp_cells.specs.Rows.{IsRow}
use Rattle.mp_cells.specs.PageView.{PageView, IsPage, HasContent, AreBits, blank_page, leaf_page, undo_page, meta_page, bit_of, with_bit, is_of}
use Rattle.mp_cells.specs.SmallMaps.{low_bits, fresh_map, gone_row}
use Rattle.mp_cells.specs.Trees.{PageMap, top, IsTree, one_if, tree_rows, row_at}
use Rattle.mp_cells.specs.Plans.{Plan, CanApply, changed_page, after_plan, after_changes, of_page, AgreesOn, touches, plan_of}
use Rattle.mp_cells.specs.Writes.{record_in, version_of, AddsUndo, WellPut, WritesRow}
use Rattle.mp_cells.proofs.AppliedPages.{bits_with}
use Rattle.mp_cells.proofs.Bits.{with_bit-any}
use Rattle.mp_cells.proofs.ByPage.{after_plan-page}
use Rattle.mp_cells.proofs.MtrPages.{of_page-untouched}
use Rattle.mp_cells.proofs.Shapes.{SameNode, Keeps, kept_tree}
use Rattle.mp_cells.proofs.Spare.{with_none, of_none}
use Rattle.mp_histories.specs.SmallHistory.{small_row, small_put}
use Rattle.mp_histories.proofs.RootLeaves.{flat_rows}

pub gone_is_row : IsRow (gone_row 7)
gone_is_row = record { key = omega arith; value = tt; origin = refl }

pub small_is_row : IsRow small_row
small_is_row = record { key = omega arith; value = tt; origin = refl }

abbrev plan : Plan
plan = plan_of small_put.records

-- the bits with page 2 taken
abbrev new_bits : List ℕ
new_bits = with_bit (low_bits 3) 2

module _ (pages : PageMap) (agrees : AgreesOn plan fresh_map pages) (height : ℕ) (tree : IsTree pages height) where
  meta_at : pages 0 ≡ meta_page 0 (low_bits 3)
  meta_at = agrees.0

  undo_there : pages 2 ≡ blank_page 0
  undo_there = agrees.1.0

  root_at : pages 1 ≡ leaf_page 0 0 top []
  root_at = agrees.1.1.1.0

  abbrev new : PageMap
  new = after_plan plan pages

  new_meta : new 0 ≡ meta_page 0 new_bits
  new_meta = after_plan-page plan pages 0 ∙ ap (after_changes (of_page 0 plan)) meta_at

  new_root : new 1 ≡ leaf_page 0 0 top (small_row ∷ [])
  new_root = after_plan-page plan pages 1 ∙ ap (after_changes (of_page 1 plan)) root_at

  new_undo : new 2 ≡ undo_page 0 (gone_row 7 ∷ [])
  new_undo = after_plan-page plan pages 2 ∙ ap (after_changes (of_page 2 plan)) undo_there

  new_else : (n : ℕ) → n ≢ 0 → n ≢ 1 → n ≢ 2 → new n ≡ pages n
  new_else n a b c =
      let meta : (n == 0) ≡ false = grind (arith, nat_tests) in
      let root : (n == 1) ≡ false = grind (arith, nat_tests) in
      let undo : (n == 2) ≡ false = grind (arith, nat_tests) in
      let none : touches n plan ≡ false = rw (meta, root, undo) refl in
      after_plan-page plan pages n ∙ ap (λ (changes : List Change). after_changes changes (pages n)) (of_page-untouched plan n none)

  -- what holds of the three pages and of all others holds of each
  each : (P : ℕ → PageView → PageView → Type 0) → P 0 (fresh_map 0) (meta_page 0 new_bits) → P 1 (fresh_map 1) (leaf_page 0 0 top (small_row ∷ [])) → P 2 (fresh_map 2) (undo_page 0 (gone_row 7 ∷ [])) → ((n : ℕ) → n ≢ 0 → n ≢ 1 → n ≢ 2 → P n (pages n) (pages n)) → (n : ℕ) → P n (pages n) (new n)
  each P meta root undo others n = elim (cases_eq n 0) [
    | inl e ↦ subst (λ (k : ℕ). P k (pages k) (new k)) (sym e) (subst (λ (p : PageView). P 0 (pages 0) p) (sym new_meta) (subst (λ (p : PageView). P 0 p (meta_page 0 new_bits)) (sym meta_at) meta))
    | inr a ↦ elim (cases_eq n 1) [
      | inl e ↦ subst (λ (k : ℕ). P k (pages k) (new k)) (sym e) (subst (λ (p : PageView). P 1 (pages 1) p) (sym new_root) (subst (λ (p : PageView). P 1 p (leaf_page 0 0 top (small_row ∷ []))) (sym root_at) root))
      | inr b ↦ elim (cases_eq n 2) [
        | inl e ↦ subst (λ (k : ℕ). P k (pages k) (new k)) (sym e) (subst (λ (p : PageView). P 2 (pages 2) p) (sym new_undo) (subst (λ (p : PageView). P 2 p (undo_page 0 (gone_row 7 ∷ []))) (sym undo_there) undo))
        | inr c ↦ subst (P n (pages n)) (sym (new_else n a b c)) (others n a b c)
      ]
    ]
  ]

  three_bits : AreBits (low_bits 3)
  three_bits = (subst (λ (p : PageView). HasContent p.kind p) meta_at (tree.sound 0 (omega arith)).content).1

  other_bit : (n : ℕ) → n ≢ 2 → bit_of new_bits n ≡ bit_of (low_bits 3) n
  other_bit n ne =
      let test : (n == 2) ≡ false = grind (arith, nat_tests) in
      with_bit-any (low_bits 3) 2 n three_bits (omega arith) ∙ ap (λ (b : Bool). cond b 1 (bit_of (low_bits 3) n)) test

  keeps : Keeps [] [] pages new
  keeps = record {
    shape = record {
      leaf = each (λ n a b. a.kind ≡ Leaf → SameNode a b) (λ e. absurd cc) (λ e. record { kind = refl; low = refl; high = refl; children = refl }) (λ e. absurd cc) (λ n a b c e. record { kind = refl; low = refl; high = refl; children = refl });
      inner = each (λ n a b. a.kind ≡ Inner → SameNode a b) (λ e. absurd cc) (λ e. absurd cc) (λ e. absurd cc) (λ n a b c e. record { kind = refl; low = refl; high = refl; children = refl });
    };
    sound = each (λ n a b. n < 4096 → IsPage b)
        (λ lt. record { llsn = omega arith; content = (refl, bits_with (low_bits 3) 2 (omega arith) three_bits) })
        (λ lt. record { llsn = omega arith; content = (refl, refl, (small_is_row, tt)) })
        (λ lt. record { llsn = omega arith; content = (refl, omega arith, (gone_is_row, tt)) })
        (λ n a b c lt. tree.sound n lt);
    meta = ap (λ (p : PageView). p.kind) new_meta;
    leaf_before = each (λ n a b. b.kind ≡ Leaf → a.kind ≡ Leaf) (λ e. absurd cc) (λ e. refl) (λ e. absurd cc) (λ n a b c e. e);
    inner_before = each (λ n a b. b.kind ≡ Inner → a.kind ≡ Inner) (λ e. absurd cc) (λ e. absurd cc) (λ e. absurd cc) (λ n a b c e. e);
    rows = each (λ n a b. a.kind ≡ Leaf → length a.rows ≤ length b.rows) (λ e. absurd cc) (λ e. omega arith) (λ e. absurd cc) (λ n a b c e. omega arith);
    bits = λ n lt. subst (λ (p : PageView). bit_of p.bits n + one_if (is_of Undo (pages n)) + 0 ≡ bit_of (pages 0).bits n + one_if (is_of Undo (new n)) + 0) (sym new_meta)
        (subst (λ (p : PageView). bit_of new_bits n + one_if (is_of Undo (pages n)) + 0 ≡ bit_of p.bits n + one_if (is_of Undo (new n)) + 0) (sym meta_at) (even n));
    blank = λ n lt e. each (λ n a b. n < 4096 → bit_of new_bits n ≡ 0 → b.kind ≡ Blank)
        (λ lt e. absurd (omega (arith, e, other_bit 0 (λ (x : 0 ≡ 2). omega (arith, x)), zero_set)))
        (λ lt e. absurd (omega (arith, e, other_bit 1 (λ (x : 1 ≡ 2). omega (arith, x)), one_set)))
        (λ lt e. absurd (omega (arith, e, two_set)))
        (λ n a b c lt e. tree.blank n lt (subst (λ (p : PageView). bit_of p.bits n ≡ 0) (sym meta_at) (sym (other_bit n c) ∙ e)))
        n lt (subst (λ (p : PageView). bit_of p.bits n ≡ 0) new_meta e);
    unused = λ n lt h. absurd (omega (arith, h));
  }
    where
      zero_set : bit_of (low_bits 3) 0 ≡ 1
      zero_set = refl

      one_set : bit_of (low_bits 3) 1 ≡ 1
      one_set = refl

      two_set : bit_of new_bits 2 ≡ 1
      two_set = with_bit-any (low_bits 3) 2 2 three_bits (omega arith)

      even : (n : ℕ) → bit_of new_bits n + one_if (is_of Undo (pages n)) + 0 ≡ bit_of (low_bits 3) n + one_if (is_of Undo (new n)) + 0
      even = each (λ n a b. bit_of new_bits n + one_if (is_of Undo a) + 0 ≡ bit_of (low_bits 3) n + one_if (is_of Undo b) + 0)
          (omega (arith, other_bit 0 (λ (x : 0 ≡ 2). omega (arith, x))))
          (omega (arith, other_bit 1 (λ (x : 1 ≡ 2). omega (arith, x))))
          (omega (arith, two_set, two_clear))
          (λ n a b c. omega (arith, other_bit n c))
        where
          two_clear : bit_of (low_bits 3) 2 ≡ 0
          two_clear = refl

  new_tree : IsTree new height
  new_tree = of_none new height (kept_tree [] [] pages new height keeps (with_none pages height tree))

  no_rows : tree_rows pages height ≡ []
  no_rows = flat_rows pages height tree (ap (λ (p : PageView). p.kind) root_at) ∙ ap (λ (p : PageView). p.rows) root_at

  one_row : tree_rows new height ≡ small_row ∷ []
  one_row = flat_rows new height new_tree (ap (λ (p : PageView). p.kind) new_root) ∙ ap (λ (p : PageView). p.rows) new_root

  adds : AddsUndo pages new (record { page = 2; index = 0 }) (gone_row 7)
  adds = record {
    fresh = ap (λ (p : PageView). record_in p 0) undo_there;
    added = λ other. each (λ n a b. record_in b other.index ≡ cond (n == 2 && other.index == 0) (Some (gone_row 7)) (record_in a other.index)) refl refl (first other.index)
        (λ n a b c. let test : (n == 2) ≡ false = grind (arith, nat_tests) in ap (λ (t : Bool). cond (t && other.index == 0) (Some (gone_row 7)) (record_in (pages n) other.index)) (sym test)) other.page;
  }
    where
      first : (index : ℕ) → slice_get (gone_row 7 ∷ []) index ≡ cond (index == 0) (Some (gone_row 7)) None
      first zero = refl
      first (suc index) = let test : (suc index == 0) ≡ false = grind (arith, nat_tests) in ap (λ (t : Bool). cond t (Some (gone_row 7)) None) (sym test)

  small_writes : WritesRow plan small_row pages height
  small_writes = record {
    changes = ((omega arith, refl), ((omega arith, tt), ((omega arith, gone_is_row), ((omega arith, small_is_row), tt))));
    meets = (subst (CanApply (TakePage 2)) (sym meta_at) refl, (subst (CanApply MakeUndo) (sym undo_there) refl, (subst (λ (p : PageView). CanApply (PutUndo (gone_row 7)) (changed_page MakeUndo p)) (sym undo_there) refl, (subst (CanApply (PutRow small_row)) (sym root_at) refl, tt))));
    new_height = height;
    tree = new_tree;
    rows = one_row ∙ ap (λ (rows : List Row). with_cell (λ (r : Row). r.key) small_row rows) (sym no_rows);
    link = record { page = 2; index = 0 };
    linked = refl;
    undo = subst (λ (rows : List Row). AddsUndo pages new (record { page = 2; index = 0 }) (version_of 7 (row_at 7 rows))) (sym no_rows) adds;
  }

pub small_put_is_well : WellPut fresh_map small_row (plan_of small_put.records)
small_put_is_well = record {
  writes = λ pages agrees height tree. small_writes pages agrees height tree;
  puts = refl;
  keeps = (gone_row 7, refl);
  restores = refl;
  taken = omega arith;
}
