-- What writing does to the bytes that a sink was given, where it tells them.
use Rattle.std.specs.Prelude.{ℕ, List, take, Option}
use Rattle.std.specs.Io.KnownBytes.{Appends}

-- a front of the piece, maybe none or all of it, was added
abbrev pub AppendsFront : Option (List ℕ) → Option (List ℕ) → List ℕ → Type 0
AppendsFront old new piece = (count : ℕ) × Appends old new (take count piece)
