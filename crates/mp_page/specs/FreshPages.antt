-- The pages of a fresh store.
use Rattle.std.specs.Prelude.{◌≡◌, ℕ, List, length}
use Rattle.mp_cells.specs.PageView.{PageView}
use Rattle.mp_cells.specs.PageMaps.{page_at}
use Rattle.mp_cells.specs.SmallMaps.{fresh_map}

-- All pages of a fresh store: page 0 says that pages 0 and 1 are taken, page 1 is an empty root, the others are blank
pub record AreFreshPages (pages : List PageView) : Type 0 where
  pub count : length pages ≡ 4096
  pub each : (n : ℕ) → page_at pages n ≡ fresh_map n
