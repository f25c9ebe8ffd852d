-- Blank pages with the first two of a fresh store before them are the pages of a fresh store.
use Rattle.std.proofs.Common.{◌≡◌, ℕ, zero, suc, List, [], ◌∷◌, length, slice_set, arith}
use Rattle.mp_cells.specs.PageView.{PageView, blank_page}
use Rattle.mp_cells.specs.PageMaps.{page_at}
use Rattle.mp_cells.specs.SmallMaps.{fresh_map}
use Rattle.mp_page.specs.FreshPages.{AreFreshPages}

pub fresh_pages_are : (blanks : List PageView) → length blanks ≡ 4096 → ((n : ℕ) → page_at blanks n ≡ blank_page 0) → (meta root : PageView) → meta ≡ fresh_map 0 → root ≡ fresh_map 1
    → AreFreshPages (slice_set (slice_set blanks 0 meta) 1 root)
fresh_pages_are [] count blank meta root meta_is root_is = absurd (omega (arith, count))
fresh_pages_are (x ∷ []) count blank meta root meta_is root_is = absurd (omega (arith, count))
fresh_pages_are (x ∷ y ∷ blanks) count blank meta root meta_is root_is = record { count = count; each = each }
  where
    each : (n : ℕ) → page_at (meta ∷ root ∷ blanks) n ≡ fresh_map n
    each zero = meta_is
    each (suc zero) = root_is
    each (suc (suc n)) = blank (suc (suc n))
