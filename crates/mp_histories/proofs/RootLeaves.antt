-- A tree whose root is a leaf has no level below it, and its rows are the root's.
use Rattle.std.proofs.Common.{◌≡◌, ℕ, ap, ◌∙◌, append-nil}
use Rattle.mp_cells.specs.declared.kinds.Kind.{Kind}
use Rattle.mp_cells.specs.declared.kinds.Kind.TheVariants.{Leaf}
use Rattle.mp_cells.specs.PageView.{kind_number, is_of}
use Rattle.mp_cells.specs.Trees.{PageMap, IsTree, tree_rows, child_at}
use Rattle.mp_cells.proofs.Heights.{height_is}
use Rattle.std.proofs.Common.{cond, ◌==◌}

pub flat : (pages : PageMap) (height : ℕ) → IsTree pages height → (pages 1).kind ≡ Leaf → height ≡ 0
flat pages height tree kind =
    height_is pages height tree ∙ ap (λ (k : Kind). cond (kind_number k == 2) 0 (cond (is_of Leaf (pages (child_at 0 (pages 1).children).page)) 1 2)) kind

pub flat_rows : (pages : PageMap) (height : ℕ) → IsTree pages height → (pages 1).kind ≡ Leaf → tree_rows pages height ≡ (pages 1).rows
flat_rows pages height tree kind = ap (tree_rows pages) (flat pages height tree kind) ∙ append-nil (pages 1).rows
