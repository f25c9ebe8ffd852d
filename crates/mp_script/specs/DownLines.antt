-- The `down` lines of primaries.
use Rattle.std.specs.Prelude.{ℕ, zero, suc, ◌+◌, ◌==◌, if◌then◌else◌, List, [], ◌∷◌}
use Rattle.mp_model.specs.declared.transcripts.Down.{Down}

-- the `down` lines of so many primaries from a first on: a line for each that is down, with its number
abbrev pub down_lines : (ℕ → ℕ) → ℕ → ℕ → List Down
down_lines down first zero = []
down_lines down first (suc count) = if down first == 0 then down_lines down (first + 1) count else record { primary = first; by = down first } ∷ down_lines down (first + 1) count
