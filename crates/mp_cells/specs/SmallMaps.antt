-- Small maps of pages: a fresh one, one of two leaves, and two that are no trees.
use Rattle.std.specs.Prelude.{ℕ, zero, suc, List, [], ◌∷◌, replicate, None}
use Rattle.mp_cells.specs.declared.rows.Row.{Row}
use Rattle.mp_cells.specs.declared.children.Child.{Child}
use Rattle.mp_cells.specs.PageView.{blank_page, meta_page, leaf_page, inner_page}
use Rattle.mp_cells.specs.Trees.{PageMap, top}

-- the bits of a meta page on which only pages below 8 are taken
abbrev pub low_bits : ℕ → List ℕ
low_bits byte = byte ∷ replicate 511 0

-- a fresh map: pages 0 and 1 are taken, the root is an empty leaf, and all other pages are blank
abbrev pub fresh_map : PageMap
fresh_map zero = meta_page 0 (low_bits 3)
fresh_map (suc zero) = leaf_page 0 0 top []
fresh_map (suc (suc n)) = blank_page 0

-- a row that is gone and that no transaction is the writer of
abbrev pub gone_row : ℕ → Row
gone_row key = record { key = key; value = None; writer = None; link = None }

-- the children of a root with two leaves
abbrev pub leaves_at : ℕ → List Child
leaves_at key = record { low = 0; page = 2 } ∷ record { low = key; page = 3 } ∷ []

-- a root with two leaves of 7 rows
abbrev pub two_leaves : PageMap
two_leaves zero = meta_page 0 (low_bits 15)
two_leaves (suc zero) = inner_page 0 0 top (leaves_at 9)
two_leaves (suc (suc zero)) = leaf_page 0 0 9 (gone_row 1 ∷ gone_row 2 ∷ gone_row 3 ∷ gone_row 4 ∷ gone_row 5 ∷ gone_row 6 ∷ gone_row 7 ∷ [])
two_leaves (suc (suc (suc zero))) = leaf_page 0 9 top (gone_row 9 ∷ gone_row 10 ∷ gone_row 11 ∷ gone_row 12 ∷ gone_row 13 ∷ gone_row 14 ∷ gone_row 15 ∷ [])
two_leaves (suc (suc (suc (suc n)))) = blank_page 0

-- a gap between two leaves: keys 7 and 8 would have no leaf
abbrev pub gap_map : PageMap
gap_map zero = meta_page 0 (low_bits 15)
gap_map (suc zero) = inner_page 0 0 top (leaves_at 9)
gap_map (suc (suc zero)) = leaf_page 0 0 7 (gone_row 1 ∷ gone_row 2 ∷ [])
gap_map (suc (suc (suc n))) = leaf_page 0 9 top []
