-- A tree beside pages that are taken and not used yet: what a map is while a plan is applied.
use Rattle.std.proofs.Common.{◌≡◌, ◌≢◌, ℕ, ◌+◌, ◌<◌, ◌≤◌, ◌==◌, false, List, [], ◌∷◌, length, refl, sym, ap, subst, ◌∙◌, arith}
use Rattle.std.proofs.lemmas.Nat.Bits.{bit_at-lt}
use Rattle.mp_cells.specs.declared.kinds.Kind.{Kind}
use Rattle.mp_cells.specs.declared.kinds.Kind.TheVariants.{Blank, Meta, Leaf, Inner, Undo}
use Rattle.mp_cells.specs.PageView.{PageView, IsPage, HasContent, kind_number, is_of, bit_of}
use Rattle.mp_cells.specs.Trees.{PageMap, root, Levels, tree_pages, one_if, uses, IsTree}
use Rattle.mp_cells.proofs.PageRanges.{LeafRanges, leaf_ranges, InnerRanges, inner_ranges}
use Rattle.mp_cells.proofs.Uses.{one_if-other}

pub record TreeWith (spare : List ℕ) (pages : PageMap) (height : ℕ) : Type 0 where
  pub sound : (n : ℕ) → n < 4096 → IsPage (pages n)
  pub meta : (pages 0).kind ≡ Meta
  pub levels : Levels pages height (root ∷ [])
  pub leaf_fill : (n : ℕ) → n < 4096 → n ≢ 1 → (pages n).kind ≡ Leaf → 7 ≤ length (pages n).rows
  pub inner_fill : (n : ℕ) → n < 4096 → n ≢ 1 → (pages n).kind ≡ Inner → 62 ≤ length (pages n).children
  pub root_fill : (pages 1).kind ≡ Inner → 2 ≤ length (pages 1).children
  pub bits : (n : ℕ) → n < 4096 → bit_of (pages 0).bits n ≡ one_if (n == 0) + uses n (tree_pages pages height) + one_if (is_of Undo (pages n)) + uses n spare
  pub blank : (n : ℕ) → n < 4096 → bit_of (pages 0).bits n ≡ 0 → (pages n).kind ≡ Blank
  -- the spare pages are blank
  pub unused : (n : ℕ) → n < 4096 → 1 ≤ uses n spare → (pages n).kind ≡ Blank

pub with_none : (pages : PageMap) (height : ℕ) → IsTree pages height → TreeWith [] pages height
with_none pages height tree = record {
  sound = tree.sound;
  meta = tree.meta;
  levels = tree.levels;
  leaf_fill = tree.leaf_fill;
  inner_fill = tree.inner_fill;
  root_fill = tree.root_fill;
  bits = λ n lt. omega (arith, tree.bits n lt);
  blank = tree.blank;
  unused = λ n lt h. absurd (omega (arith, h));
}

pub of_none : (pages : PageMap) (height : ℕ) → TreeWith [] pages height → IsTree pages height
of_none pages height tree = record {
  sound = tree.sound;
  meta = tree.meta;
  levels = tree.levels;
  leaf_fill = tree.leaf_fill;
  inner_fill = tree.inner_fill;
  root_fill = tree.root_fill;
  bits = λ n lt. omega (arith, tree.bits n lt);
  blank = tree.blank;
}

-- what a page of a kind has
pub content_of : (kind : Kind) (page : PageView) → IsPage page → page.kind ≡ kind → HasContent kind page
content_of kind page h e = subst (λ (k : Kind). HasContent k page) e h.content

pub leaf_facts : (page : PageView) → IsPage page → page.kind ≡ Leaf → LeafRanges page.low page.high page.rows
leaf_facts page h e = leaf_ranges page.low page.high page.rows (content_of Leaf page h e).1

pub inner_facts : (page : PageView) → IsPage page → page.kind ≡ Inner → InnerRanges page.low page.high page.children
inner_facts page h e = inner_ranges page.low page.high page.children (content_of Inner page h e).1

-- a page that isn't an undo page
pub not_undo : (page : PageView) (kind : Kind) → page.kind ≡ kind → (kind_number kind == 4) ≡ false → one_if (is_of Undo page) ≡ 0
not_undo page kind e test = ap (λ (k : Kind). one_if (kind_number k == 4)) e ∙ ap one_if test

pub is_undo : (page : PageView) → page.kind ≡ Undo → one_if (is_of Undo page) ≡ 1
is_undo page e = ap (λ (k : Kind). one_if (kind_number k == 4)) e

pub kind_apart : (pages : PageMap) (n m : ℕ) (kind other : Kind) → (pages n).kind ≡ kind → (pages m).kind ≡ other → kind ≢ other → n ≢ m
kind_apart pages n m kind other a b apart = λ (e : n ≡ m). apart (sym a ∙ ap (λ (k : ℕ). (pages k).kind) e ∙ b)

-- a leaf or inner page is used once, and is not spare
pub in_tree : (spare : List ℕ) (pages : PageMap) (height : ℕ) → TreeWith spare pages height → (n : ℕ) → n < 4096 → (kind : Kind) → (pages n).kind ≡ kind → (kind_number kind == 4) ≡ false → kind ≢ Meta → kind ≢ Blank → uses n (tree_pages pages height) ≡ 1
in_tree spare pages height tree n lt kind e undo meta blank =
    let apart : n ≢ 0 = kind_apart pages n 0 kind Meta e tree.meta meta in
    let set : bit_of (pages 0).bits n ≢ 0 = λ (z : bit_of (pages 0).bits n ≡ 0). blank (sym e ∙ tree.blank n lt z) in
    let kept : 1 ≤ uses n spare → ⊥ = λ (h : 1 ≤ uses n spare). blank (sym e ∙ tree.unused n lt h) in
    omega (arith, tree.bits n lt, bit_at-lt, one_if-other n 0 apart, not_undo (pages n) kind e undo, set, kept)

pub leaf_once : (spare : List ℕ) (pages : PageMap) (height : ℕ) → TreeWith spare pages height → (n : ℕ) → n < 4096 → (pages n).kind ≡ Leaf → uses n (tree_pages pages height) ≡ 1
leaf_once spare pages height tree n lt kind = in_tree spare pages height tree n lt Leaf kind refl (λ (e : Leaf ≡ Meta). absurd cc) (λ (e : Leaf ≡ Blank). absurd cc)

pub inner_once : (spare : List ℕ) (pages : PageMap) (height : ℕ) → TreeWith spare pages height → (n : ℕ) → n < 4096 → (pages n).kind ≡ Inner → uses n (tree_pages pages height) ≡ 1
inner_once spare pages height tree n lt kind = in_tree spare pages height tree n lt Inner kind refl (λ (e : Inner ≡ Meta). absurd cc) (λ (e : Inner ≡ Blank). absurd cc)

-- no page is used twice
pub used_most : (spare : List ℕ) (pages : PageMap) (height : ℕ) → TreeWith spare pages height → (n : ℕ) → n < 4096 → uses n (tree_pages pages height) ≤ 1
used_most spare pages height tree n lt = omega (arith, tree.bits n lt, bit_at-lt)

-- a spare page isn't in the tree
pub spare_apart : (spare : List ℕ) (pages : PageMap) (height : ℕ) → TreeWith spare pages height → (n : ℕ) → n < 4096 → 1 ≤ uses n spare → uses n (tree_pages pages height) ≡ 0
spare_apart spare pages height tree n lt h = omega (arith, tree.bits n lt, bit_at-lt, h)
