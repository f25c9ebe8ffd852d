-- The first bytes of small sides, for examples.
use Rattle.std.specs.Prelude.{ℕ, List, ◌∷◌, ◌++◌, replicate}
use Rattle.byteorder.specs.Endian.{little_bytes}

-- an open side of a page with this generation and LLSN
abbrev pub small_side : ℕ → ℕ → List ℕ
small_side generation llsn = 165 ∷ (replicate 7 0 ++ (little_bytes 8 generation ++ (replicate 8 0 ++ little_bytes 8 llsn)))

-- an open side of a header with this generation
abbrev pub small_header : ℕ → List ℕ
small_header generation = 165 ∷ (replicate 15 0 ++ little_bytes 8 generation)
