-- What a window holds of a file.
use Rattle.std.specs.Prelude.{◌≡◌, ℕ, ◌≤◌, List, length, take, drop}

-- the first so many bytes of a window are those of the file from a place on
pub record WindowHolds (place filled : ℕ) (window file : List ℕ) : Type 0 where
  pub there : filled ≤ length (drop place file)
  pub same : take filled window ≡ take filled (drop place file)
