-- Cells in the order of their keys.
use Rattle.std.specs.Prelude.{ℕ, ◌+◌, ◌&&◌, ◌==◌, nat_le, nat_lt, Bool, true, false, List, [], ◌∷◌, ◌++◌, filter}
use Rattle.std.specs.List.{list_any}

-- the keys rise strictly, from low on and below high
abbrev pub rises : {T : Type 0} → (T → ℕ) → ℕ → ℕ → List T → Bool
rises key low high [] = true
rises key low high (cell ∷ cells) = nat_le low (key cell) && nat_lt (key cell) high && rises key (key cell + 1) high cells

-- some cell has the key
abbrev pub holds : {T : Type 0} → (T → ℕ) → ℕ → List T → Bool
holds key k cells = list_any (λ cell. key cell == k) cells

-- the first of these cells is there and has the key
abbrev pub holds_first : {T : Type 0} → (T → ℕ) → ℕ → List T → Bool
holds_first key k [] = false
holds_first key k (cell ∷ cells) = key cell == k

-- the cells with this one at its key, in order: it takes the place of one that has the key
abbrev pub with_cell : {T : Type 0} → (T → ℕ) → T → List T → List T
with_cell key new cells = filter (λ cell. nat_lt (key cell) (key new)) cells ++ new ∷ filter (λ cell. nat_lt (key new) (key cell)) cells

-- the cells with keys below a bound
abbrev pub cells_below : {T : Type 0} → (T → ℕ) → ℕ → List T → List T
cells_below key bound cells = filter (λ cell. nat_lt (key cell) bound) cells
