-- Pages with other LLSNs are a tree as before, with the same rows and undo records.
use Rattle.std.proofs.Common.{◌≡◌, ℕ, zero, suc, ◌^◌, ◌<◌, ◌==◌, List, [], ◌∷◌, ◌++◌, length, refl, sym, ap, subst, ◌∙◌, arith}
use Rattle.mp_cells.specs.declared.kinds.Kind.{Kind}
use Rattle.mp_cells.specs.declared.kinds.Kind.TheVariants.{Blank, Meta, Leaf, Inner, Undo}
use Rattle.mp_cells.specs.declared.rows.Link.{Link}
use Rattle.mp_cells.specs.declared.rows.Row.{Row}
use Rattle.mp_cells.specs.declared.children.Child.{Child}
use Rattle.mp_cells.specs.PageView.{PageView, IsPage, HasContent, SameContent, kind_number, bit_of}
use Rattle.mp_cells.specs.Trees.{PageMap, root, below, leaves, one_if, IsTree, rows_under, tree_rows}
use Rattle.mp_cells.specs.Writes.{record_in, undo_at}
use Rattle.mp_cells.proofs.Llsns.{with_llsn}
use Rattle.mp_cells.proofs.Spare.{with_none, of_none}
use Rattle.mp_cells.proofs.Shapes.{SameNode, Keeps, kept_tree}

content_with : (kind : Kind) (page : PageView) (llsn : ℕ) → HasContent kind page → HasContent kind (with_llsn llsn page)
content_with Blank page llsn h = ap (with_llsn llsn) h
content_with Meta page llsn h = (ap (with_llsn llsn) h.0, h.1)
content_with Leaf page llsn h = (ap (with_llsn llsn) h.0, h.1, h.2)
content_with Inner page llsn h = (ap (with_llsn llsn) h.0, h.1, h.2)
content_with Undo page llsn h = (ap (with_llsn llsn) h.0, h.1, h.2)

pub page_with : (page other : PageView) → SameContent page other → other.llsn < 2 ^ 62 → IsPage page → IsPage other
page_with page other same lt h = subst IsPage same (record { llsn = lt; content = content_with page.kind page other.llsn h.content })

module _ (pages new : PageMap) (same : (n : ℕ) → SameContent (pages n) (new n)) where
  below_same : (level : List Child) → below new level ≡ below pages level
  below_same [] = refl
  below_same (child ∷ level) =
      ap (λ (p : PageView). p.children ++ below new level) (sym (same child.page)) ∙ ap (λ (xs : List Child). (pages child.page).children ++ xs) (below_same level)

  leaves_same : (height : ℕ) (level : List Child) → leaves new height level ≡ leaves pages height level
  leaves_same zero level = refl
  leaves_same (suc height) level = ap (leaves new height) (below_same level) ∙ leaves_same height (below pages level)

  rows_same : (level : List Child) → rows_under new level ≡ rows_under pages level
  rows_same [] = refl
  rows_same (child ∷ level) =
      ap (λ (p : PageView). p.rows ++ rows_under new level) (sym (same child.page)) ∙ ap (λ (xs : List Row). (pages child.page).rows ++ xs) (rows_same level)

  pub same_rows : (height : ℕ) → tree_rows new height ≡ tree_rows pages height
  same_rows height = ap (rows_under new) (leaves_same height (root ∷ [])) ∙ rows_same (leaves pages height (root ∷ []))

  pub same_undo : (link : Link) → undo_at new link ≡ undo_at pages link
  same_undo link = ap (λ (p : PageView). record_in p link.index) (sym (same link.page))

  node : (n : ℕ) → SameNode (pages n) (new n)
  node n = record {
    kind = ap (λ (p : PageView). p.kind) (sym (same n));
    low = ap (λ (p : PageView). p.low) (sym (same n));
    high = ap (λ (p : PageView). p.high) (sym (same n));
    children = ap (λ (p : PageView). p.children) (sym (same n));
  }

  pub same_tree : (height : ℕ) → ((n : ℕ) → n < 4096 → (new n).llsn < 2 ^ 62) → IsTree pages height → IsTree new height
  same_tree height llsns tree =
      let kinds : (n : ℕ) → (new n).kind ≡ (pages n).kind = λ n. (node n).kind in
      let bit : (n : ℕ) → bit_of (new 0).bits n ≡ bit_of (pages 0).bits n = λ n. ap (λ (p : PageView). bit_of p.bits n) (sym (same 0)) in
      let keeps : Keeps [] [] pages new = record {
        shape = record { leaf = λ n e. node n; inner = λ n e. node n };
        sound = λ n lt. page_with (pages n) (new n) (same n) (llsns n lt) (tree.sound n lt);
        meta = kinds 0 ∙ tree.meta;
        leaf_before = λ n e. sym (kinds n) ∙ e;
        inner_before = λ n e. sym (kinds n) ∙ e;
        rows = λ n e. omega (arith, ap (λ (p : PageView). length p.rows) (same n));
        bits = λ n lt. omega (arith, bit n, ap (λ (k : Kind). one_if (kind_number k == 4)) (kinds n));
        blank = λ n lt e. kinds n ∙ tree.blank n lt (sym (bit n) ∙ e);
        unused = λ n lt h. absurd (omega (arith, h));
      } in
      of_none new height (kept_tree [] [] pages new height keeps (with_none pages height tree))
